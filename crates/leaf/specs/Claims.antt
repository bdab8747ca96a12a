-- What is claimed of a leaf, at one level where there is one. `bs` are its blocks as they stand, `row` is the chip's.
use Rattle.std.specs.Prelude.{ℕ, ◌+◌, ◌<◌, ◌≡◌, List, ◌++◌, map, Bool, drop, get_or}
use Rattle.rom.specs.Refusal.{first_met, Exact}
use Rattle.format.specs.Block.{the_first_version, is_listed, is_reset, is_power, is_skipped}
use Rattle.leaf.specs.Cases.{run_in, run_leaf, paper_cases, further_cases, power_cases, first_cases, run_stepped, run_kept, starts_cases}
use Rattle.leaf.specs.Leaf.{cut, count_of, leaf_causes, PlacedBlock, placed, place_by_stepping, start_by_stepping, running_start}

-- a leaf's refusal is exact: other than 0, its cause is met and none before it is; 0, none is met
abbrev pub ExactLeaf : Type 0
ExactLeaf = (first : Bool) (row level : ℕ) (bs : List (List ℕ))
    → Exact (leaf_causes first row level bs) (first_met (leaf_causes first row level bs))

-- listed, resets, skipped and power, each counted by its own rule, add up to the block count at every level
abbrev pub SortsAddUp : Type 0
SortsAddUp = (row level count : ℕ) (s : List ℕ) →
    count_of (is_listed row level) (cut row count s) + count_of (is_reset row level) (cut row count s)
    + count_of (is_skipped row level) (cut row count s) + count_of (is_power row level) (cut row count s) ≡ count

-- each block is placed where stepping from the first one leads
abbrev pub PlacedByStepping : Type 0
PlacedByStepping = (row at count k : ℕ) (s : List ℕ) (d : PlacedBlock) → k < count
    → get_or (placed row at (cut row count s)) k d ≡ place_by_stepping row at k s

-- the start that is kept from block to block equals at each block the start that stepping from the first one gives, for blocks
-- from a byte of an image on
abbrev pub RunningStart : Type 0
RunningStart = (row first k : ℕ) (image : List ℕ) → running_start row first k image ≡ start_by_stepping row first k (drop first image)

-- each worked case is answered as it says
abbrev pub LeavesWorked : Type 0
LeavesWorked = map run_leaf (paper_cases ++ further_cases) ≡ paper_cases ++ further_cases

abbrev pub PowersWorked : Type 0
PowersWorked = map run_leaf power_cases ≡ power_cases

abbrev pub FirstWorked : Type 0
FirstWorked = map (run_in the_first_version) first_cases ≡ first_cases

abbrev pub StartsWorked : Type 0
StartsWorked = (map run_stepped starts_cases ≡ starts_cases) × (map run_kept starts_cases ≡ starts_cases)
