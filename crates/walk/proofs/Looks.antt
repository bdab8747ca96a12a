-- The steps of a look, as the tests of the code find them. Assumes nothing.
use Prim.Native.Nat.{ℕ}
use mathlib.Core.Path.{◌≡◌, refl}
use mathlib.Core.List.{List}
use mathlib.Core.Bool.{Bool, true, false}
use lib.Dec.{eqb, lit<}
use borrow.Author.Tests.{eqb-false}
use Rattle.rom.specs.Bytes.{pick}
use Rattle.rom.specs.Refusal.{first_met}
use Rattle.rom.proofs.First.{none_here}
use Rattle.walk.specs.declared.Walk.{Walk}
use Rattle.walk.specs.Walk.{fixed_block, look_causes, walked_to, stepped, look_for}

-- a look that is accepted finds looks below their most
pub accepted-looks : (w : Walk) (report : List ℕ) → first_met (look_causes w report) ≡ 0 → w.looks ≡ 65535 → ⊥
unfolding look_causes
accepted-looks w report e =
    let fresh = none_here _ _ (lit< tt) e in
    let missing = none_here _ _ (lit< tt) fresh.1 in
    eqb-false w.looks 65535 (none_here _ _ (lit< tt) missing.1).0

pub look-done : (w : Walk) (report : List ℕ) (n : ℕ) → n ≡ first_met (look_causes w report) → (next : Walk) → n ≡ 0
    → next ≡ stepped w report → record { number = n; walk = next } ≡ look_for w report
unfolding look_for walked_to pick
look-done w report n e next z f = rw (← e, z, f)

-- what a look does not change: whether a walk is loaded, its type, its default and the block that has the fixed medium
pub record SameLeaf (w next : Walk) : Type 0 where
  pub loaded : next.loaded ≡ w.loaded
  pub connection : next.connection ≡ w.connection
  pub «default» : next.default_number ≡ w.default_number
  pub fixed : fixed_block next ≡ fixed_block w

pub look-keeps : (w : Walk) (report : List ℕ) → SameLeaf w (look_for w report).walk
unfolding look_for walked_to stepped fixed_block pick
look-keeps w report = go (eqb (first_met (look_causes w report)) 0)
  where
    go : (t : Bool) → SameLeaf w (pick t (stepped w report) w)
    go true = record { loaded = refl; connection = refl; «default» = refl; fixed = refl }
    go false = record { loaded = refl; connection = refl; «default» = refl; fixed = refl }
