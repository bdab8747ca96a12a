-- The blocks of a leaf one by one: the next block of a cut and the rest behind it, and causes that are accepted block by block.
-- Assumes nothing.
use Prim.Native.Nat.{ℕ, zero, suc, ◌+◌, ◌-◌, ◌≤◌, ◌<◌}
use native.Mathlib.Omega.{arith}
use native.Mathlib.Nat.{le_refl}
use mathlib.Core.List.{List, [], ◌∷◌}
use mathlib.Core.Bool.{Bool}
use mathlib.Core.Path.{◌≡◌, refl, ap, sym, ◌∙◌}
use lib.Dec.{lit<}
use lib.ListN.{length, take, drop, length-drop}
use lib.Seq.{take_all}
use Rattle.rom.specs.Refusal.{first_met, Numbered}
use Rattle.rom.proofs.First.{exact, numbered-append, both-accepted}
use Rattle.rom.proofs.Fewer.{Fewer, end, fewer, fewer-append}
use Rattle.block.specs.Answer.{Verdict}
use Rattle.format.specs.Block.{size_of, causes, refusal_of, the_later_version}
use Rattle.block.specs.Answer.{block_of, number_of, size_in}
use Rattle.format.proofs.Exact.{causes-numbered}
use Rattle.format.proofs.Levels.{causes-later}
use Rattle.block.proofs.Seen.{SeenAs, seen_as, seen-number, seen_size, fits}
use Rattle.leaf.specs.Leaf.{cut, block_causes, clash_cause, mode_cause, whole_causes, leaf_causes}
use Rattle.leaf.specs.Claims.{ExactLeaf}

-- ## The cut

pub cut-more : (row count k : ℕ) (s : List ℕ) → k < count → cut row (count - k) s ≡ s ∷ cut row (count - (k + 1)) (drop (size_of row s) s)
unfolding cut
cut-more row count k s h =
    let e : count - k ≡ suc (count - (k + 1)) = omega arith in
    rw e

pub cut-none : (row count k : ℕ) (s : List ℕ) → count ≤ k → cut row (count - k) s ≡ []
unfolding cut
cut-none row count k s h =
    let e : count - k ≡ 0 = omega arith in
    rw e

pub cut-length : (row count : ℕ) (s : List ℕ) → length (cut row count s) ≡ count
unfolding cut
cut-length row zero s = refl
cut-length row (suc count) s = ap suc (cut-length row count (drop (size_of row s) s))

-- a part from a place on has all the elements from there
pub rest_part : (n : ℕ) (s : List ℕ) → take (length s - n) (drop n s) ≡ drop n s
rest_part n s = take_all (length s - n) (drop n s) (simp length-drop (le_refl _))

-- and ends where the whole does
pub part-ends : (s : List ℕ) (at n : ℕ) {end : ℕ} → n ≤ length s → at + length s ≤ end
    → (at + n) + length (take (length s - n) (drop n s)) ≤ end
part-ends s at n h k = rw rest_part (omega (arith, length-drop n s))

-- ## Causes

pub blocks-numbered : (first : Bool) (row level : ℕ) (bs : List (List ℕ)) → Numbered (block_causes first row level bs)
unfolding block_causes
blocks-numbered first row level [] = tt
blocks-numbered first row level (s ∷ bs) =
    numbered-append (causes first row level s) (block_causes first row level bs) (causes-numbered first row level s)
    (blocks-numbered first row level bs)

pub leaf-numbered : (first : Bool) (row level : ℕ) (bs : List (List ℕ)) → Numbered (leaf_causes first row level bs)
unfolding leaf_causes whole_causes clash_cause mode_cause
leaf-numbered first row level bs = numbered-append (block_causes first row level bs) _ (blocks-numbered first row level bs)
    (lit< tt, (lit< tt, tt))

pub exact-leaf : ExactLeaf
exact-leaf first row level bs = (exact (leaf_causes first row level bs) (leaf-numbered first row level bs)).0

-- what is accepted in version 1 is accepted in versions 3 and 4
blocks-later : (first : Bool) (row level : ℕ) (bs : List (List ℕ))
    → Fewer (block_causes first row level bs) (block_causes the_later_version row level bs)
unfolding block_causes
blocks-later first row level [] = end
blocks-later first row level (s ∷ bs) = fewer-append (causes-later first row level s) (blocks-later first row level bs)

-- an accepted leaf's blocks are accepted, and what is tested over them all is not met
pub leaf-accepted : (first : Bool) (row level : ℕ) (bs : List (List ℕ)) → first_met (leaf_causes first row level bs) ≡ 0
    → (first_met (block_causes first row level bs) ≡ 0) × (first_met (whole_causes row level bs) ≡ 0)
unfolding leaf_causes
leaf-accepted first row level bs = both-accepted (block_causes first row level bs) _ (blocks-numbered first row level bs)

pub accepted-blocks : (first : Bool) (row level : ℕ) (bs : List (List ℕ)) → first_met (leaf_causes first row level bs) ≡ 0
    → first_met (block_causes the_later_version row level bs) ≡ 0
accepted-blocks first row level bs e =
    fewer (blocks-numbered first row level bs) (blocks-later first row level bs) (leaf-accepted first row level bs e).0

-- accepted blocks, one by one
pub first-accepted : (row level : ℕ) (s : List ℕ) (bs : List (List ℕ)) → first_met (block_causes the_later_version row level (s ∷ bs)) ≡ 0
    → (refusal_of row level s ≡ 0) × (first_met (block_causes the_later_version row level bs) ≡ 0)
unfolding block_causes refusal_of
first-accepted row level s bs =
    both-accepted (causes the_later_version row level s) (block_causes the_later_version row level bs)
    (causes-numbered the_later_version row level s)

-- an accepted block lies in the rest, in the terms of the code: b is what it is found to be, n its number, z its size
pub size_fits : (row level : ℕ) (s : List ℕ) {b : Verdict} {n z : ℕ} → b ≡ block_of row level s → n ≡ number_of b → n ≡ 0 → z ≡ size_in b
    → z ≤ length s
size_fits row level s {b} {n} {z} eb en e ez =
    let v : SeenAs row level s b = rw eb (seen_as row level s) in
    let r : refusal_of row level s ≡ 0 = sym (seen-number v) ∙ sym en ∙ e in
    rw (ez, seen_size v (sym en ∙ e)) (fits row level s r)

-- ## A pass over accepted blocks: i are passed

-- the next is accepted
pub next-refusal : (row level count : ℕ) (rest : List ℕ) {i : ℕ}
    → first_met (block_causes the_later_version row level (cut row (count - i) rest)) ≡ 0 → i < count → refusal_of row level rest ≡ 0
next-refusal row level count rest e h = (first-accepted row level rest _ (rw cut-more at e)).0

-- and b is what it is found to be

module _ (row level count : ℕ) (rest : List ℕ) {i : ℕ} {b : Verdict}
    (e : first_met (block_causes the_later_version row level (cut row (count - i) rest)) ≡ 0)
    (h : i < count) (eb : b ≡ block_of row level rest) where
  next-accepted : (refusal_of row level rest ≡ 0)
      × (first_met (block_causes the_later_version row level (cut row (count - (i + 1)) (drop (size_of row rest) rest))) ≡ 0)
  next-accepted = first-accepted row level rest _ (rw cut-more at e)

  pub next-seen : SeenAs row level rest b
  next-seen = rw eb (seen_as row level rest)

  pub next-fine : number_of b ≡ 0
  next-fine = seen-number next-seen ∙ next-accepted.0

  pub next_fits : {z : ℕ} → z ≡ size_in b → z ≤ length rest
  next_fits = size_fits row level rest eb refl next-fine

  pub next-left : first_met (block_causes the_later_version row level (cut row (count - (i + 1)) (drop (size_of row rest) rest))) ≡ 0
  next-left = next-accepted.1
