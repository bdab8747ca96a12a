-- Where a pass over a leaf's blocks stands: one step more from where k steps led is the next block's place, and what is placed
-- there. Assumes nothing.
use Prim.Native.Nat.{ℕ, zero, suc, ◌+◌, ◌-◌, ◌≤◌, ◌<◌}
use native.Mathlib.Omega.{arith}
use native.Mathlib.Nat.{sub-zero}
use native.Mathlib.Numerals.{add-one}
use mathlib.Core.List.{List, [], ◌∷◌}
use mathlib.Core.Path.{◌≡◌, refl, ap, sym, ◌∙◌}
use lib.ListN.{length, drop, drop_of_length-le}
use lib.Seq.{drop-drop, drop-cons}
use Rattle.rom.specs.Refusal.{first_met}
use Rattle.format.specs.Block.{size_of, the_later_version}
use Rattle.leaf.specs.Leaf.{cut, block_causes, PlacedBlock, placed, place_by_stepping, start_by_stepping, running_start}
use Rattle.leaf.specs.Claims.{PlacedByStepping, RunningStart}
use Rattle.leaf.proofs.Cuts.{cut-more, first-accepted}

-- the place behind a block
abbrev next : ℕ → PlacedBlock → PlacedBlock
next row p = record { start = p.start + size_of row p.rest; rest = drop (size_of row p.rest) p.rest }

step-more : (row at k : ℕ) (s : List ℕ) → place_by_stepping row at (suc k) s ≡ next row (place_by_stepping row at k s)
unfolding place_by_stepping
step-more row at zero s = refl
step-more row at (suc k) s = step-more row (at + size_of row s) k (drop (size_of row s) s)

-- ## What a pass keeps: the next block's start and rest are those that stepping gives

abbrev pub Stands : ℕ → ℕ → List ℕ → ℕ → ℕ → List ℕ → Type 0
Stands row first s k at rest = ◌≡◌ {A = PlacedBlock} (record { start = at; rest = rest }) (place_by_stepping row first k s)

pub stands-first : (row first : ℕ) (s : List ℕ) → Stands row first s 0 first s
unfolding place_by_stepping
stands-first row first s = refl

pub stands-more : (row first : ℕ) (s : List ℕ) (k at : ℕ) (rest : List ℕ) → Stands row first s k at rest
    → {size : ℕ} {behind : List ℕ} → size ≡ size_of row rest → behind ≡ drop size rest
    → Stands row first s (k + 1) (at + size) behind
stands-more row first s k at rest e es eb =
    rw (eb, es) (ap (next row) e ∙ sym (step-more row first k s) ∙ ap (λ (n : ℕ). place_by_stepping row first n s) (sym (add-one k)))

-- the same over accepted blocks, k of `count` being passed
pub record Passing (row level first count : ℕ) (s : List ℕ) (k at : ℕ) (rest : List ℕ) : Type 0 where
  pub stands : Stands row first s k at rest
  pub accepted : first_met (block_causes the_later_version row level (cut row (count - k) rest)) ≡ 0

pub passing-first : {row level first count : ℕ} {s : List ℕ} → first_met (block_causes the_later_version row level (cut row count s)) ≡ 0
    → Passing row level first count s 0 first s
passing-first {row} {first = first} {s = s} e = record { stands = stands-first row first s; accepted = rw sub-zero e }

pub passing-more : {row level first count : ℕ} {s : List ℕ} {k at : ℕ} {rest : List ℕ} → Passing row level first count s k at rest
    → k < count → {size : ℕ} {behind : List ℕ} → size ≡ size_of row rest → behind ≡ drop size rest
    → Passing row level first count s (k + 1) (at + size) behind
passing-more {row} {level} {first} {s = s} {k = k} {at = at} {rest = rest} p h es eb =
    record {
      stands = stands-more row first s k at rest p.stands es eb;
      accepted = rw (eb, es) (first-accepted row level rest _ (rw cut-more at p.accepted)).1;
    }

-- ## The running start

-- where the leaf is the image from its first block on, so is the rest from the next one on
rest-here : (row at k : ℕ) (s image : List ℕ) → s ≡ drop at image
    → (place_by_stepping row at k s).rest ≡ drop (start_by_stepping row at k s) image
unfolding place_by_stepping
rest-here row at zero s image e = e
rest-here row at (suc k) s image e =
    let size = size_of row s in rest-here row (at + size) k (drop size s) image (ap (drop size) e ∙ drop-drop size at image)

pub running-start : RunningStart
unfolding running_start place_by_stepping
running-start row first zero image = refl
running-start row first (suc k) image =
    let s = drop first image in
    ap (λ (n : ℕ). n + size_of row (drop n image)) (running-start row first k image)
    ∙ ap (λ (l : List ℕ). start_by_stepping row first k s + size_of row l) (sym (rest-here row first k s image refl))
    ∙ ap (λ (p : PlacedBlock). p.start) (sym (step-more row first k s))

-- ## What is placed

placed-length : (row at count : ℕ) (s : List ℕ) → length (placed row at (cut row count s)) ≡ count
unfolding placed cut
placed-length row at zero s = refl
placed-length row at (suc count) s = ap suc (placed-length row (at + size_of row s) count (drop (size_of row s) s))

pub placed-stepping : PlacedByStepping
unfolding place_by_stepping placed cut
placed-stepping row at zero k s d h = absurd (omega arith)
placed-stepping row at (suc count) zero s d h = refl
placed-stepping row at (suc count) (suc k) s d h = placed-stepping row (at + size_of row s) count k (drop (size_of row s) s) d (omega arith)

-- the places that are left, in a pass: the next block's, and those behind it
pub placed-more : (row first count k at : ℕ) (s rest : List ℕ) → Stands row first s k at rest → k < count
    → drop k (placed row first (cut row count s)) ≡ record { start = at; rest = rest } ∷ drop (k + 1) (placed row first (cut row count s))
placed-more row first count k at s rest e h =
    let d : PlacedBlock = record { start = at; rest = rest } in
    let l = placed row first (cut row count s) in
    drop-cons l k d (omega (arith, placed-length row first count s))
    ∙ ap (λ (p : PlacedBlock). p ∷ drop (suc k) l) (placed-stepping row first count k s d h ∙ sym e)
    ∙ ap (λ (n : ℕ). d ∷ drop n l) (sym (add-one k))

pub placed-none : (row first count k : ℕ) (s : List ℕ) → count ≤ k → drop k (placed row first (cut row count s)) ≡ []
placed-none row first count k s h =
    drop_of_length-le (placed row first (cut row count s)) {i = k} (omega (arith, placed-length row first count s))
