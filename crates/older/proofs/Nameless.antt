-- Under a type that names no medium no block has the fixed one, so a load finds none, and no look changes that. Assumes nothing.
use Prim.Native.Nat.{ℕ, zero, suc}
use mathlib.Core.List.{List, [], ◌∷◌}
use mathlib.Core.Path.{◌≡◌, refl, ap, sym, ◌∙◌}
use mathlib.Core.Bool.{Bool, true, false, ◌||◌}
use lib.Dec.{eqb}
use borrow.Author.Tests.{eqb-true}
use Rattle.rom.specs.Geometry.{none}
use Rattle.rom.specs.Bytes.{pick, is_in}
use Rattle.rom.specs.Refusal.{first_met}
use Rattle.rom.proofs.Truth.{true-false, and-false}
use Rattle.format.specs.Block.{is_listed}
use Rattle.image.specs.declared.Arguments.{Arguments}
use Rattle.image.specs.Arguments.{row_for}
use Rattle.reader.specs.Reading.{blocks_for, accepted_answer}
use Rattle.walk.specs.declared.Walk.{Walk}
use Rattle.walk.specs.Walk.{way_of, is_fixed, block_is, is_fixed_medium, rows_of, fresh_walk, loaded_walk, last_below}
use Rattle.walk.specs.Walk.{fixed_block, look_causes, load_causes, walked_to, load_for, look_for, clear_for}
use Rattle.walk.proofs.Computes.{look-computes, rows-compute}
use Rattle.walk.proofs.Looks.{look-keeps}
use Rattle.older.specs.FromFresh.{FromFresh, fresh, load, look, clear}
use Rattle.older.specs.Claims.{nameless, AlwaysLacking}
use Rattle.older.proofs.Numbered.{flag-block}
use Rattle.older.proofs.Simulation.{last-same}

-- ## The types

-- what is so of each of a list is so of those in it
abbrev EachOf : (ℕ → Type 0) → List ℕ → Type 0
EachOf P [] = Unit {0}
EachOf P (c ∷ cs) = P c × EachOf P cs

in-each : (P : ℕ → Type 0) (cs : List ℕ) → EachOf P cs → (c : ℕ) → is_in c cs ≡ true → P c
unfolding is_in
in-each P [] h c e = true-false (sym e)
in-each P (d ∷ cs) h c e = go (eqb d c) (eqb-true d c) e (in-each P cs h.1 c)
  where
    go : (t : Bool) → (t ≡ true → d ≡ c) → (t || is_in c cs) ≡ true → (is_in c cs ≡ true → P c) → P c
    go true f g later = rw (← f refl) h.0
    go false f g later = later g

is-fixed : (c : ℕ) → is_in c nameless ≡ true → is_fixed (way_of c) ≡ true
unfolding look-computes
is-fixed = in-each (λ c. is_fixed (way_of c) ≡ true) nameless (refl, (refl, tt))

no-medium : (c : ℕ) → is_in c nameless ≡ true → (row level : ℕ) (s : List ℕ) → is_fixed_medium c row level s ≡ false
unfolding rows-compute
no-medium =
    in-each (λ c. (row level : ℕ) (s : List ℕ) → is_fixed_medium c row level s ≡ false) nameless
    (λ row level s. and-false (is_listed row level s), (λ row level s. and-false (is_listed row level s), tt))

-- ## Rows

no_block : (p : List ℕ → Bool) → ((s : List ℕ) → p s ≡ false) → (bs : List (List ℕ)) (k : ℕ) → block_is p bs k ≡ false
unfolding block_is
no_block p h [] k = refl
no_block p h (s ∷ bs) zero = h s
no_block p h (s ∷ bs) (suc k) = no_block p h bs k

last_none : (n : ℕ) → last_below (λ k. false) n ≡ none
unfolding last_below pick
last_none zero = refl
last_none (suc n) = last_none n

loaded-none : (image : List ℕ) (a : Arguments) → is_in (loaded_walk image a).connection nameless ≡ true
    → fixed_block (loaded_walk image a) ≡ none
unfolding fixed_block loaded_walk rows_of
loaded-none image a e =
    last-same _ (λ k. false)
    (λ k. flag-block _ (blocks_for image a) k
    ∙ no_block _ (no-medium (accepted_answer image a).connection e (row_for a) a.level) (blocks_for image a) k)
    (accepted_answer image a).blocks
    ∙ last_none (accepted_answer image a).blocks

-- ## Calls

load-none : (w : Walk) → (is_in w.connection nameless ≡ true → fixed_block w ≡ none) → (image : List ℕ) (a : Arguments)
    → is_in (load_for w image a).walk.connection nameless ≡ true → fixed_block (load_for w image a).walk ≡ none
unfolding load_for walked_to pick
load-none w h image a = go (eqb (first_met (load_causes w image a)) 0)
  where
    go : (t : Bool) → is_in (pick t (loaded_walk image a) w).connection nameless ≡ true
        → fixed_block (pick t (loaded_walk image a) w) ≡ none
    go true = loaded-none image a
    go false = h

fresh-none : fixed_block fresh_walk ≡ none
unfolding fixed_block fresh_walk last_below
fresh-none = refl

lacks : (w : Walk) → FromFresh w → is_in w.connection nameless ≡ true → fixed_block w ≡ none
unfolding clear_for
lacks u fresh e = fresh-none
lacks u (load {w} image a r) e = load-none w (λ g. lacks w r g) image a e
lacks u (look {w} report r) e =
    let kept = look-keeps w report in
    kept.fixed ∙ lacks w r (ap (λ (c : ℕ). is_in c nameless) (sym kept.connection) ∙ e)
lacks u (clear r) e = fresh-none

pub always-lacking : AlwaysLacking
unfolding look_for look_causes first_met walked_to pick
always-lacking w r l e report = rw (lacks w r e, is-fixed w.connection e, l)
