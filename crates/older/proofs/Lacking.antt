-- Under a fixed type without a choice a walk is fresh or as it was loaded: each look at it is refused. Assumes nothing.
use Prim.Native.Nat.{ℕ}
use mathlib.Core.List.{List, [], ◌∷◌}
use mathlib.Core.Path.{◌≡◌, refl, sym}
use mathlib.Core.Bool.{true}
use Rattle.rom.specs.Geometry.{none}
use Rattle.rom.specs.Bytes.{pick}
use Rattle.rom.specs.Refusal.{first_met}
use Rattle.rom.proofs.Truth.{true-false}
use Rattle.image.specs.declared.Arguments.{Arguments}
use Rattle.walk.specs.declared.Walk.{Walk}
use Rattle.walk.specs.Walk.{way_of, is_fixed, fixed_block, fresh_walk, look_causes, walked_to, load_for, look_for, clear_for}
use Rattle.walk.proofs.Loads.{load-loaded}
use Rattle.older.specs.Calls.{Call, load, look, clear, call, Each, RefusedAt}
use Rattle.older.proofs.Simulation.{fresh-look}

-- fresh, or as it was loaded
pub data Resting (w : Walk) : Walk → Type 0 where
  idle : Resting w fresh_walk
  loaded : Resting w w

module _ (image : List ℕ) (a : Arguments) (w : Walk) (loads : load_for fresh_walk image a ≡ record { number = 0; walk = w })
    (is-loaded : w.loaded ≡ true) (fixed : is_fixed (way_of w.connection) ≡ true) (lacking : fixed_block w ≡ none) where
  look-refused : (report : List ℕ) → look_for w report ≡ record { number = 32; walk = w }
  unfolding look_for look_causes first_met walked_to pick
  look-refused report = rw (lacking, fixed, is-loaded)

  at : {v : Walk} → Resting w v → (c : Call) → RefusedAt 32 v c × Resting w (call image a v c).walk
  unfolding call clear_for fresh_walk
  at idle load = rw loads (tt, loaded)
  at idle (look report) = rw (fresh-look report) ((λ l. true-false (sym l)), idle)
  at idle clear = (tt, idle)
  at loaded load = rw (← load-loaded w image a is-loaded) (tt, loaded)
  at loaded (look report) = rw (look-refused report) ((λ l. refl), loaded)
  at loaded clear = (tt, idle)

  pub each-refused : {v : Walk} → Resting w v → (cs : List Call) → Each (RefusedAt 32) image a v cs
  each-refused r [] = tt
  each-refused {v = v} r (c ∷ cs) = let t = at r c in (t.0, each-refused {v = (call image a v c).walk} t.1 cs)
