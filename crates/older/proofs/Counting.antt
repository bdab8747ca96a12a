-- In every walk that calls reach from a fresh one switches are at most looks, so no accepted look finds them at their most;
-- under a fixed type only the look that comes to the choice switches. Assumes nothing.
use Prim.Native.Nat.{ℕ, ◌+◌, ◌≤◌}
use native.Mathlib.Omega.{arith}
use mathlib.Core.List.{List, []}
use mathlib.Core.Path.{◌≡◌, refl, ap, sym, ◌∙◌}
use mathlib.Core.Bool.{Bool, true, false, not}
use lib.Dec.{eqb}
use borrow.Author.Tests.{eqb-true, eq-eqb, ne_eqb}
use Rattle.rom.specs.Bytes.{pick, one}
use Rattle.rom.specs.Refusal.{first_met}
use Rattle.image.specs.declared.Arguments.{Arguments}
use Rattle.walk.specs.declared.Walk.{Walk}
use Rattle.walk.specs.Walk.{Choice, way_of, is_fixed, fresh_walk, loaded_walk, fixed_block, chosen, switched, stepped, look_causes}
use Rattle.walk.specs.Walk.{load_causes, walked_to}
use Rattle.walk.specs.Walk.{load_for, look_for, clear_for}
use Rattle.walk.proofs.Looks.{accepted-looks}
use Rattle.walk.proofs.Fixed.{fixed-chosen}
use Rattle.older.specs.FromFresh.{FromFresh, fresh, load, look, clear}
use Rattle.older.specs.Claims.{CountsExactly, FixedSwitches}

record Counts (w : Walk) : Type 0 where
  fewer : w.switches ≤ w.looks
  fits : w.looks ≤ 65535

counts-fresh : Counts fresh_walk
unfolding fresh_walk
counts-fresh = record { fewer = omega arith; fits = omega arith }

-- one switch at most, and exactly one where the selection changed
switched-exactly : (n x y : ℕ) → (n ≡ 65535 → ⊥) → switched n x y ≡ n + one (not (eqb x y))
unfolding switched pick
switched-exactly n x y h = rw (ne_eqb n 65535 h) (go (eqb x y))
  where
    go : (t : Bool) → pick t n (n + 1) ≡ n + one (not t)
    go true = omega arith
    go false = refl

one-few : (t : Bool) → one t ≤ 1
one-few true = omega arith
one-few false = omega arith

module _ (w : Walk) (c : Counts w) (report : List ℕ) where
  stepped-exactly : first_met (look_causes w report) ≡ 0
      → ((stepped w report).looks ≡ w.looks + 1)
      × ((stepped w report).switches ≡ w.switches + one (not (eqb w.selected (stepped w report).selected)))
  unfolding stepped
  stepped-exactly e =
      let room = accepted-looks w report e in
      (refl, switched-exactly w.switches w.selected (chosen w report).selected (λ q. room (omega (arith, c.fewer, c.fits))))

  counts-look : Counts (look_for w report).walk
  unfolding look_for walked_to pick
  counts-look = go (eqb (first_met (look_causes w report)) 0) refl
    where
      go : (t : Bool) → eqb (first_met (look_causes w report)) 0 ≡ t → Counts (pick t (stepped w report) w)
      go false e = c
      go true e =
          let z = eqb-true (first_met (look_causes w report)) 0 e in
          let room = accepted-looks w report z in
          let s = stepped-exactly z in
          record {
            fewer = omega (arith, c.fewer, s.0, s.1, one-few (not (eqb w.selected (stepped w report).selected)));
            fits = omega (arith, c.fits, room, s.0);
          }

  counts-load : (image : List ℕ) (a : Arguments) → Counts (load_for w image a).walk
  unfolding load_for walked_to loaded_walk pick
  counts-load image a = go (eqb (first_met (load_causes w image a)) 0)
    where
      go : (t : Bool) → Counts (pick t (loaded_walk image a) w)
      go true = record { fewer = omega arith; fits = omega arith }
      go false = c

  look-exactly : (look_for w report).number ≡ 0
      → ((look_for w report).walk.looks ≡ w.looks + 1)
      × ((look_for w report).walk.switches ≡ w.switches + one (not (eqb w.selected (look_for w report).walk.selected)))
  unfolding look_for walked_to pick
  look-exactly e = rw e (stepped-exactly e)

counts-from-fresh : (w : Walk) → FromFresh w → Counts w
unfolding clear_for
counts-from-fresh u fresh = counts-fresh
counts-from-fresh u (load {w} image a r) = counts-load w (counts-from-fresh w r) [] image a
counts-from-fresh u (look {w} report r) = counts-look w (counts-from-fresh w r) report
counts-from-fresh u (clear r) = counts-fresh

pub counts-exactly : CountsExactly
counts-exactly w r =
    let c = counts-from-fresh w r in
    (c.fewer, c.fits, λ report e. look-exactly w c report e)

-- ## Under a fixed type

-- not switched yet, or once, to the block that has the fixed medium
data SwitchedOnce (w : Walk) : Type 0 where
  never : w.switches ≡ 0 → SwitchedOnce w
  to-medium : w.selected ≡ fixed_block w → w.switches ≤ 1 → SwitchedOnce w

abbrev UnderFixed : Walk → Type 0
UnderFixed w = is_fixed (way_of w.connection) ≡ true

module _ (w : Walk) (s : UnderFixed w → SwitchedOnce w) where
  switched-load : (image : List ℕ) (a : Arguments) → UnderFixed (load_for w image a).walk → SwitchedOnce (load_for w image a).walk
  unfolding load_for walked_to loaded_walk pick
  switched-load image a = go (eqb (first_met (load_causes w image a)) 0)
    where
      go : (t : Bool) → UnderFixed (pick t (loaded_walk image a) w) → SwitchedOnce (pick t (loaded_walk image a) w)
      go true f = never refl
      go false f = s f

  switched-step : (report : List ℕ) → UnderFixed w → SwitchedOnce (stepped w report)
  unfolding stepped fixed_block
  switched-step report f = go (s f)
    where
      chosen-block : (chosen w report).selected ≡ fixed_block w
      chosen-block = ap (λ (c : Choice). c.selected) (fixed-chosen w report f)

      go : SwitchedOnce w → SwitchedOnce (stepped w report)
      go (never e) =
          to-medium chosen-block
          (omega (
            arith,
            e,
            switched-exactly w.switches w.selected (chosen w report).selected (λ q. omega (arith, e)),
            one-few (not (eqb w.selected (chosen w report).selected)),
          ))
      go (to-medium e h) =
          to-medium chosen-block
          (rw (switched-exactly w.switches _ _ (λ q. omega (arith, h)), eq-eqb _ _ (e ∙ sym chosen-block)) (omega (arith, h)))

  switched-look : (report : List ℕ) → UnderFixed (look_for w report).walk → SwitchedOnce (look_for w report).walk
  unfolding look_for walked_to stepped pick
  switched-look report = go (eqb (first_met (look_causes w report)) 0)
    where
      go : (t : Bool) → UnderFixed (pick t (stepped w report) w) → SwitchedOnce (pick t (stepped w report) w)
      go true f = switched-step report f
      go false f = s f

switched-once : (w : Walk) → FromFresh w → UnderFixed w → SwitchedOnce w
unfolding clear_for fresh_walk
switched-once u fresh f = never refl
switched-once u (load {w} image a r) f = switched-load w (λ g. switched-once w r g) image a f
switched-once u (look {w} report r) f = switched-look w (λ g. switched-once w r g) report f
switched-once u (clear r) f = never refl

pub fixed-switches : FixedSwitches
fixed-switches w r f = go (switched-once w r f)
  where
    go : SwitchedOnce w → w.switches ≤ 1
    go (never e) = omega arith
    go (to-medium e h) = h
