-- The first cause that is met is one of the first refused block's, by induction over the blocks. Assumes nothing.
use Prim.Native.Nat.{ℕ, zero, suc, ◌+◌, ◌-◌, ◌≤◌}
use native.Mathlib.Omega.{arith}
use native.Mathlib.Nat.{le_refl, sub-zero}
use mathlib.Core.List.{List, [], ◌∷◌}
use mathlib.Core.Bool.{Bool}
use mathlib.Core.Path.{◌≡◌, refl, ◌∙◌}
use lib.ListN.{get_or}
use Rattle.rom.specs.Bytes.{pick}
use Rattle.rom.specs.Refusal.{first_met}
use Rattle.rom.proofs.First.{after-accepted, after-refused}
use Rattle.format.specs.Block.{size_of, causes, refusal_in}
use Rattle.format.proofs.Exact.{causes-numbered}
use Rattle.image.specs.Image.{is_first_version}
use Rattle.image.specs.Arguments.{row_for, start_for, header_causes}
use Rattle.image.proofs.Causes.{header-numbered}
use Rattle.leaf.specs.Leaf.{first_from, block_causes, leaf_causes, placed, PlacedBlock}
use Rattle.reader.specs.Reading.{blocks_for, leaf_causes_for, judge_causes, judge_answer}
use Rattle.reader.proofs.Readings.{answer-number}
use Rattle.survey.specs.Survey.{is_refused, refused_for}
use Rattle.survey.specs.Claims.{NamesTheBlock}
use Rattle.survey.proofs.Stepping.{first-here, first-later}

module _ (first : Bool) (row level : ℕ) (s : List ℕ) (bs : List (List ℕ)) where
  by_first : (refusal_in first row level s ≡ 0 → ⊥) → first_met (block_causes first row level (s ∷ bs)) ≡ refusal_in first row level s
  unfolding block_causes refusal_in
  by_first n = after-refused (causes first row level s) _ _ n refl

  by-others : refusal_in first row level s ≡ 0 → first_met (block_causes first row level (s ∷ bs))
      ≡ first_met (block_causes first row level bs)
  unfolding block_causes refusal_in
  by-others = after-accepted (causes first row level s) _ (causes-numbered first row level s)

-- n is the number of a block whose refusal is that of them all, where the first has number k
Names : Bool → ℕ → ℕ → PlacedBlock → ℕ → ℕ → List (List ℕ) → ℕ → Type 0
Names first row level d at k bs n =
    (k ≤ n) × (first_met (block_causes first row level bs) ≡ refusal_in first row level (get_or (placed row at bs) (n - k) d).rest)

names : (first : Bool) (row level : ℕ) (d : PlacedBlock) (at k : ℕ) (bs : List (List ℕ))
    → (first_met (block_causes first row level bs) ≡ 0 → ⊥)
    → Names first row level d at k bs (first_from (is_refused first row level) k bs)
unfolding Names block_causes first_met placed
names first row level d at k [] r = absurd (r refl)
names first row level d at k (s ∷ bs) r = go (refusal_in first row level s) refl (names first row level d (at + size_of row s) (k + 1) bs)
  where
    go : (n : ℕ) → refusal_in first row level s ≡ n
        → ((first_met (block_causes first row level bs) ≡ 0 → ⊥)
        → Names first row level d (at + size_of row s) (k + 1) bs (first_from (is_refused first row level) (k + 1) bs))
        → Names first row level d at k (s ∷ bs) (first_from (is_refused first row level) k (s ∷ bs))
    go zero e ih =
        let same = by-others first row level s bs e in
        let m = ih (λ f. r (same ∙ f)) in
        let n = first_from (is_refused first row level) (k + 1) bs in
        let j : n - k ≡ suc (n - (k + 1)) = omega (arith, m.0) in
        rw (first-later first row level s bs k e) (omega (arith, m.0), rw j (same ∙ m.1))
    go (suc n) e ih =
        let ne : refusal_in first row level s ≡ 0 → ⊥ = λ z. omega (arith, e) in
        let j : k - k ≡ 0 = omega arith in
        rw (first-here first row level s bs k ne) (le_refl k, rw j (by_first first row level s bs ne))

pub names-the-block : NamesTheBlock
unfolding judge_answer judge_causes leaf_causes_for leaf_causes refused_for Names pick
names-the-block image a z r =
    let bs = blocks_for image a in
    let named = (names (is_first_version image) (row_for a) a.level (record { start = 0; rest = [] }) (start_for image a) 0 bs r).1 in
    rw z
    (answer-number (first_met (judge_causes image a)) image a
    ∙ after-accepted (header_causes image a) _ (header-numbered image a) z
    ∙ after-refused (block_causes (is_first_version image) (row_for a) a.level bs) _ _ r refl
    ∙ (rw sub-zero at named))
