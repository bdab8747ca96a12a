-- The blocks of a leaf (document 01, 'Leaf and blocks', 'Levels and the table'; document 02, requests 2, 3 and 12). Each is given as
-- the leaf's rest from its first byte on. No level changes where they are cut: the level only judges and lists.
use Rattle.std.specs.Prelude.{ℕ, zero, suc, ◌+◌, List, [], ◌∷◌, ◌++◌, reverse, Bool, ◌||◌, ◌&&◌, drop, ltb}
use Rattle.rom.specs.Geometry.{none}
use Rattle.rom.specs.Bytes.{pick, one, keep, any_below}
use Rattle.rom.specs.Refusal.{Cause, ◌⇒◌}
use Rattle.format.specs.Block.{size_of, kind_of, is_listed, is_reset, is_default, resets_a_phy, sets_mode, causes}

-- so many blocks, numbered from 0 as they stand
unfoldable pub cut : ℕ → ℕ → List ℕ → List (List ℕ)
cut row zero s = []
cut row (suc n) s = s ∷ cut row n (drop (size_of row s) s)

-- ## Counts

-- how many blocks p takes
unfoldable pub count_of : (List ℕ → Bool) → List (List ℕ) → ℕ
count_of p [] = 0
count_of p (s ∷ bs) = one (p s) + count_of p bs

-- the number of the first block that p takes, where the first of these blocks has number k; none if there is none
unfoldable pub first_from : (List ℕ → Bool) → ℕ → List (List ℕ) → ℕ
first_from p k [] = none
first_from p k (s ∷ bs) = pick (p s) k (first_from p (k + 1) bs)

-- ## Why a leaf's blocks are refused: one after another, then 18 and 31 over them all

-- two type 5 blocks, or one and a PHY block with r above 0, or two defaults
unfoldable pub clash : ℕ → ℕ → ℕ → Bool
clash resets phy_resets defaults = ltb 1 resets || ltb 0 resets && ltb 0 phy_resets || ltb 1 defaults

-- `first` is whether the image is of version 1
unfoldable pub block_causes : Bool → ℕ → ℕ → List (List ℕ) → List Cause
block_causes first row level [] = []
block_causes first row level (s ∷ bs) = causes first row level s ++ block_causes first row level bs

-- among known blocks
unfoldable pub clash_cause : ℕ → ℕ → List (List ℕ) → Cause
clash_cause row level bs = 18 ⇒ clash (count_of (is_reset row level) bs) (count_of (resets_a_phy row level) bs)
    (count_of (is_default row level) bs)

-- a bit of the mode byte set in two power blocks, among known blocks
unfoldable pub mode_cause : ℕ → ℕ → List (List ℕ) → Cause
mode_cause row level bs = 31 ⇒ any_below (λ k. ltb 1 (count_of (sets_mode row level k) bs)) 8

unfoldable pub whole_causes : ℕ → ℕ → List (List ℕ) → List Cause
whole_causes row level bs = clash_cause row level bs ∷ mode_cause row level bs ∷ []

unfoldable pub leaf_causes : Bool → ℕ → ℕ → List (List ℕ) → List Cause
leaf_causes first row level bs = block_causes first row level bs ++ whole_causes row level bs

-- ## The table

-- a block with its byte offset in the image
pub record PlacedBlock : Type 0 where
  pub start : ℕ
  pub rest : List ℕ

-- the blocks with their offsets, the first at `at`
unfoldable pub placed : ℕ → ℕ → List (List ℕ) → List PlacedBlock
placed row at [] = []
placed row at (s ∷ bs) = record { start = at; rest = s } ∷ placed row (at + size_of row s) bs

-- block k, found by k steps from the first, which stands at `at`: each goes on by the size of the block there
unfoldable pub place_by_stepping : ℕ → ℕ → ℕ → List ℕ → PlacedBlock
place_by_stepping row at zero s = record { start = at; rest = s }
place_by_stepping row at (suc k) s = place_by_stepping row (at + size_of row s) k (drop (size_of row s) s)

abbrev pub start_by_stepping : ℕ → ℕ → ℕ → List ℕ → ℕ
start_by_stepping row at k s = (place_by_stepping row at k s).start

-- block k's start in an image, kept from block to block: that of the block before it, and the size of the block that starts there
unfoldable pub running_start : ℕ → ℕ → ℕ → List ℕ → ℕ
running_start row first zero image = first
running_start row first (suc k) image =
    running_start row first k image + size_of row (drop (running_start row first k image) image)

-- listed blocks from the last to the first
unfoldable pub table : ℕ → ℕ → List PlacedBlock → List PlacedBlock
table row level bs = reverse (keep (λ b. is_listed row level b.rest) bs)

-- the table of so many blocks, of which the first stands at byte `at` of the image
unfoldable pub table_of : ℕ → ℕ → ℕ → ℕ → List ℕ → List PlacedBlock
table_of row level count at s = table row level (placed row at (cut row count s))

abbrev pub kind_at : ℕ → PlacedBlock → ℕ
kind_at row b = kind_of row b.rest

abbrev pub start_at : PlacedBlock → ℕ
start_at b = b.start
