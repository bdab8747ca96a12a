-- What is promised of reading, for every image and every argument (demands 1 and 2).
use Rattle.std.specs.Prelude.{ℕ, ◌+◌, ◌<◌, ◌≡◌, List, [], length, take, get_or}
use Rattle.rom.specs.Refusal.{Exact, first_met}
use Rattle.format.specs.Block.{size_of}
use Rattle.image.specs.declared.Arguments.{Arguments}
use Rattle.image.specs.Arguments.{row_for}
use Rattle.leaf.specs.Leaf.{PlacedBlock}
use Rattle.reader.specs.Reading.{table_for, judge_causes, read_causes, accepted_answer, judge_answer, read_answer, view_for}

-- a number other than 0 means that its cause is met and none before it; 0 that none is met
abbrev pub ExactReading : Type 0
ExactReading = (image : List ℕ) (a : Arguments) →
    Exact (judge_causes image a) (judge_answer image a).number
    × ((kinds offsets : ℕ) → Exact (read_causes image a kinds offsets) (read_answer image a kinds offsets).number)

-- listed, resets, skipped and power, each counted by its own rule, make up the block count
abbrev pub CountsAddUp : Type 0
CountsAddUp = (image : List ℕ) (a : Arguments) →
    (accepted_answer image a).listed + (accepted_answer image a).resets + (accepted_answer image a).skipped
    + (accepted_answer image a).power
    ≡ (accepted_answer image a).blocks

abbrev pub entry_at : List ℕ → Arguments → ℕ → PlacedBlock
entry_at image a e = get_or (table_for image a) e (record { start = 0; rest = [] })

-- the view of an entry of an accepted image is that block's bytes
abbrev pub ViewIsBlock : Type 0
ViewIsBlock = (image : List ℕ) (a : Arguments) (e : ℕ) → first_met (judge_causes image a) ≡ 0 → e < length (table_for image a)
    → view_for image a e ≡ take (size_of (row_for a) (entry_at image a e).rest) (entry_at image a e).rest
