-- What an older level does not know of a leaf that the newest lists. `row` is the chip's.
use Rattle.std.specs.Prelude.{ℕ, List, Bool, ◌&&◌, not}
use Rattle.format.specs.Chips.{newest_level}
use Rattle.format.specs.Block.{kind_of, is_known, is_listed}
use Rattle.image.specs.declared.Arguments.{Arguments}
use Rattle.image.specs.Arguments.{row_for}
use Rattle.leaf.specs.Leaf.{PlacedBlock}
use Rattle.reader.specs.Reading.{blocks_for}
use Rattle.walk.specs.Walk.{block_is}

-- an entry that is not removed: its kind is no type, or a type below the older level
abbrev pub is_kept : ℕ → ℕ → PlacedBlock → Bool
is_kept row older b = is_known older (kind_of row b.rest)

-- a block of a type that only the newest knows
abbrev pub only_newest : ℕ → ℕ → ℕ → List ℕ → Bool
only_newest row older newest s = is_known newest (kind_of row s) && not (is_known older (kind_of row s))

-- a block whose entry is removed: listed by the newest, of a type that the older does not know
abbrev pub is_removed : ℕ → ℕ → ℕ → List ℕ → Bool
is_removed row older newest s = is_listed row newest s && not (is_known older (kind_of row s))

-- whether block k has a removed entry
abbrev pub removed_block : List ℕ → Arguments → ℕ → ℕ → Bool
removed_block image a older k = block_is (is_removed (row_for a) older newest_level) (blocks_for image a) k
