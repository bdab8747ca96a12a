-- The blocks of a leaf one by one, whatever they say: where the next stands, and whether it is the first that is refused.
-- Assumes nothing.
use Prim.Native.Nat.{ℕ, ◌+◌, ◌-◌, ◌≤◌, ◌<◌}
use native.Mathlib.Omega.{arith}
use mathlib.Core.List.{List, ◌∷◌}
use mathlib.Core.Bool.{Bool}
use mathlib.Core.Path.{◌≡◌, sym, ap, ◌∙◌, refl}
use lib.ListN.{length, take, drop, drop_of_length-le}
use lib.Seq.{drop-length}
use borrow.Author.Tests.{eq-eqb, ne_eqb}
use Rattle.rom.specs.Geometry.{none}
use Rattle.rom.specs.Bytes.{pick}
use Rattle.block.specs.Answer.{Verdict}
use Rattle.format.specs.Block.{size_of, kind_of, refusal_in}
use Rattle.block.specs.Answer.{block_in, number_of, size_in}
use Rattle.block.proofs.Seen.{SeenAs, seen_as, seen_size}
use Rattle.block.proofs.Versions.{answers-first, found-later}
use Rattle.leaf.specs.Leaf.{cut, first_from, place_by_stepping}
use Rattle.leaf.proofs.Cuts.{cut-more, cut-none, rest_part, size_fits}
use Rattle.leaf.proofs.Stepping.{Stands}
use Rattle.survey.specs.Survey.{place_at, is_refused}
use Rattle.block.specs.declared.Block.{Block}
use Rattle.block.specs.declared.Block.TheVariants as code
use Rattle.block.specs.Answer.{found_as}

-- a block that is found is not refused
pub found-number : (b : Block) → number_of (found_as b) ≡ 0
found-number (code.Listed m) = refl
found-number (code.Reset size) = refl
found-number (code.Power size mode) = refl
found-number (code.Unknown size) = refl

-- ## Where the next block stands

-- what `find` answers: z is the size of the block where the steps led, t its kind
pub find-done : (row first number : ℕ) (s : List ℕ) {k at : ℕ} {rest : List ℕ} {z t : ℕ} → Stands row first s k at rest → k ≡ number
    → z ≡ size_of row rest → t ≡ kind_of row rest
    → record { start = at; size = z; kind = t } ≡ place_at row (place_by_stepping row first number s)
find-done row first number s e ek ez et = rw (ez, et, ← ek) (ap (place_at row) e)

-- ## The first block that is refused

module _ (first : Bool) (row level : ℕ) (s : List ℕ) (bs : List (List ℕ)) (k : ℕ) where
  pub first-here : (refusal_in first row level s ≡ 0 → ⊥) → first_from (is_refused first row level) k (s ∷ bs) ≡ k
  unfolding first_from is_refused pick
  first-here n = simp (ne_eqb (refusal_in first row level s) 0 n)

  pub first-later : refusal_in first row level s ≡ 0
      → first_from (is_refused first row level) k (s ∷ bs) ≡ first_from (is_refused first row level) (k + 1) bs
  unfolding first_from is_refused pick
  first-later e = simp (eq-eqb (refusal_in first row level s) 0 e)

-- The steps of `first_refused` in its own terms: b is what the next block is found to be, n its number, z its size.
module _ (first : Bool) (row level count : ℕ) (s : List ℕ) {k whole : ℕ}
    (inv : first_from (is_refused first row level) k (cut row (count - k) s) ≡ whole) where
  pub refused-here : {b : Verdict} {n : ℕ} → k < count → b ≡ block_in first row level s → n ≡ number_of b → (n ≡ 0 → ⊥) → k ≡ whole
  refused-here {b} {n} h eb en ne =
      let number = ap number_of eb ∙ (answers-first first row level s).0 in
      sym (first-here first row level s _ k (λ e. ne (en ∙ number ∙ e))) ∙ (rw cut-more at inv)

  pub refused-later : {b : Verdict} {n z : ℕ} → k < count → b ≡ block_in first row level s → n ≡ number_of b → n ≡ 0 → z ≡ size_in b
      → first_from (is_refused first row level) (k + 1) (cut row (count - (k + 1)) (drop z s)) ≡ whole
  refused-later {b} {n} {z} h eb en e ez =
      let v : SeenAs row level s b = rw (found-later first row level s eb en e) (seen_as row level s) in
      let number = ap number_of eb ∙ (answers-first first row level s).0 in
      let f = first-later first row level s _ k (sym number ∙ sym en ∙ e) in
      rw (ez, seen_size v (sym en ∙ e)) (sym f ∙ (rw cut-more at inv))

  pub refused-nowhere : count ≤ k → none ≡ whole
  unfolding first_from
  refused-nowhere h = rw cut-none at inv
