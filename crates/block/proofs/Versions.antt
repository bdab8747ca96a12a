-- A block in an image of version 1: it is refused there, or found to be what it is in versions 3 and 4. Assumes nothing.
use Prim.Native.Nat.{ℕ, zero, suc, ◌≤◌, ◌<◌}
use mathlib.Core.List.{List}
use mathlib.Core.Path.{◌≡◌, refl, ap, sym, ◌∙◌}
use mathlib.Core.Bool.{Bool, true, false, not}
use lib.Dec.{eqb, eqb-suc-zero}
use lib.ListN.{length}
use borrow.Author.Tests.{lt-ltb, not-true, not-false}
use Rattle.rom.specs.Bytes.{pick}
use Rattle.rom.specs.Refusal.{first_met}
use Rattle.rom.proofs.Truth.{true-false}
use Rattle.block.specs.Answer.{Verdict}
use Rattle.block.specs.Answer.{Refused}
use Rattle.format.specs.Block.{is_extended, size_of, causes, refusal_in, refusal_of}
use Rattle.format.proofs.Exact.{extended-refused, others-alike}
use Rattle.format.proofs.Levels.{later-accepts}
use Rattle.block.specs.Answer.{answered, block_in, block_of, number_of}
use Rattle.block.specs.Claims.{AnswersFirst}
use Rattle.block.proofs.Seen.{seen_as, seen-number}

pub answers-first : AnswersFirst
unfolding block_in answered pick
answers-first first row level s = (go (refusal_in first row level s) refl, λ e. rw e)
  where
    go : (n : ℕ) → refusal_in first row level s ≡ n → number_of (pick (eqb n 0) (block_of row level s) (Refused n)) ≡ n
    go zero e = seen-number (seen_as row level s) ∙ later-accepts first row level s e
    go (suc n) e = rw (eqb-suc-zero n)

-- so, in the terms of the code, where b is what it is found to be and n its number
pub found-later : (first : Bool) (row level : ℕ) (s : List ℕ) {b : Verdict} {n : ℕ} → b ≡ block_in first row level s → n ≡ number_of b
    → n ≡ 0 → b ≡ block_of row level s
found-later first row level s eb en e =
    let number = ap number_of eb ∙ (answers-first first row level s).0 in
    eb ∙ (answers-first first row level s).1 (sym number ∙ sym en ∙ e)

-- a block that is refused alike is answered alike
alike-judged : (first : Bool) (row level : ℕ) (s : List ℕ) → refusal_in first row level s ≡ refusal_of row level s
    → block_of row level s ≡ block_in first row level s
unfolding block_in block_of answered pick
alike-judged first row level s e = rw e (go (refusal_of row level s) _)
  where
    go : (n : ℕ) (b : Verdict) → pick (eqb n 0) b (Refused n) ≡ pick (eqb n 0) (pick (eqb n 0) b (Refused n)) (Refused n)
    go zero b = refl
    go (suc n) b = rw (eqb-suc-zero n)

-- ## The steps of `judge_in` in its own terms: x is whether the block is extended, z its size

pub judged-later : (first : Bool) (row level : ℕ) (s : List ℕ) {b : Verdict} → first ≡ false → b ≡ block_of row level s
    → b ≡ block_in first row level s
unfolding refusal_in refusal_of
judged-later first row level s e eb = rw e (eb ∙ alike-judged false row level s refl)

module _ (first : Bool) (row level : ℕ) (s : List ℕ) (e : first ≡ true) {x : Bool} (ex : x ≡ is_extended row s) where
  pub judged-alike : {b : Verdict} → x ≡ false → b ≡ block_of row level s → b ≡ block_in first row level s
  judged-alike n eb = rw e (eb ∙ alike-judged true row level s (others-alike row level s (sym ex ∙ n)))

  module _ (n : x ≡ true) {z : ℕ} (ez : z ≡ size_of row s) where
    pub judged-past : length s < z → Refused 13 ≡ block_in first row level s
    unfolding block_in refusal_in causes first_met answered pick
    judged-past h = rw e (simp (lt-ltb (length s) (size_of row s) (rw ez at h)))

    pub judged-extended : z ≤ length s → Refused 14 ≡ block_in first row level s
    unfolding block_in answered pick
    judged-extended h = rw e (rw (extended-refused row level s (sym ex ∙ n) (rw ez at h)))
