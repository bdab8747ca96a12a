-- The tally of a leaf's blocks, in words of their causes, and the sorts of its blocks, which add up. Assumes nothing.
use Prim.Native.Nat.{ℕ, zero, suc, ◌+◌, ◌≤◌}
use native.Mathlib.Omega.{arith}
use mathlib.Core.List.{List, [], ◌∷◌}
use mathlib.Core.Path.{◌≡◌, refl, ◌∙◌}
use mathlib.Core.Bool.{Bool, true, false, ◌||◌, ◌&&◌, not}
use lib.Dec.{eqb, ltb, lit<, eqb-suc-zero}
use lib.ListN.{length}
use borrow.Author.Tests.{ltb-false, eqb-true}
use Rattle.rom.specs.Bytes.{pick, one}
use Rattle.rom.specs.Refusal.{first_met}
use Rattle.rom.proofs.First.{none_here}
use Rattle.rom.proofs.Truth.{or-false}
use Rattle.format.specs.Block.{kind_of, is_known, is_listed, is_reset, is_power, is_skipped, is_default, resets_a_phy}
use Rattle.leaf.specs.Leaf.{cut, count_of, clash, clash_cause, mode_cause, whole_causes, leaf_causes}
use Rattle.leaf.specs.Tally.{no_tally, counts, tally_of}
use Rattle.leaf.specs.Claims.{SortsAddUp}
use Rattle.leaf.proofs.Cuts.{cut-length, leaf-accepted}

-- ## The tally in words of the causes

pub tally-number : (first : Bool) (row level : ℕ) (bs : List (List ℕ))
    → (tally_of first row level bs).number ≡ first_met (leaf_causes first row level bs)
unfolding tally_of counts no_tally pick
tally-number first row level bs = go (first_met (leaf_causes first row level bs))
  where
    go : (n : ℕ) → (pick (eqb n 0) (counts row level bs) (no_tally n)).number ≡ n
    go zero = refl
    go (suc n) = rw (eqb-suc-zero n)

pub tally-accepted : (first : Bool) (row level : ℕ) (bs : List (List ℕ)) → first_met (leaf_causes first row level bs) ≡ 0
    → tally_of first row level bs ≡ counts row level bs
unfolding tally_of pick
tally-accepted first row level bs e = rw e

-- two defaults are a clash
pub accepted-defaults : (first : Bool) (row level : ℕ) (bs : List (List ℕ)) → first_met (leaf_causes first row level bs) ≡ 0
    → count_of (is_default row level) bs ≤ 1
unfolding whole_causes clash_cause clash
accepted-defaults first row level bs e =
    ltb-false 1 _
    (or-false (ltb 1 resets || ltb 0 resets && ltb 0 phy_resets) (ltb 1 defaults)
    (none_here (clash_cause row level bs) (mode_cause row level bs ∷ []) (lit< tt) (leaf-accepted first row level bs e).1).0).1
  where
    resets : ℕ
    resets = count_of (is_reset row level) bs

    phy_resets : ℕ
    phy_resets = count_of (resets_a_phy row level) bs

    defaults : ℕ
    defaults = count_of (is_default row level) bs

-- ## The sorts of a block

-- each block is of one sort
pub one-sort : (row level : ℕ) (s : List ℕ)
    → one (is_listed row level s) + one (is_reset row level s) + one (is_skipped row level s) + one (is_power row level s) ≡ 1
unfolding is_listed is_reset is_power is_skipped
one-sort row level s = go (is_known level (kind_of row s)) (eqb (kind_of row s) 5) refl (eqb (kind_of row s) 6) refl
  where
    go : (k r : Bool) → eqb (kind_of row s) 5 ≡ r → (p : Bool) → eqb (kind_of row s) 6 ≡ p
        → one (k && not (r || p)) + one (k && r) + one (not k) + one (k && p) ≡ 1
    go true true e true f = absurd (omega (arith, eqb-true (kind_of row s) 5 e, eqb-true (kind_of row s) 6 f))
    go true true e false f = refl
    go true false e true f = refl
    go true false e false f = refl
    go false r e p f = refl

sorts-length : (row level : ℕ) (bs : List (List ℕ))
    → count_of (is_listed row level) bs + count_of (is_reset row level) bs + count_of (is_skipped row level) bs
    + count_of (is_power row level) bs
    ≡ length bs
unfolding count_of
sorts-length row level [] = refl
sorts-length row level (s ∷ bs) = omega (arith, one-sort row level s, sorts-length row level bs)

pub sorts-add-up : SortsAddUp
sorts-add-up row level count s = sorts-length row level (cut row count s) ∙ cut-length row count s
