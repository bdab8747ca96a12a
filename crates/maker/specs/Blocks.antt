-- The blocks of a leaf that are left in a pass, each with its place and the entry that it is.
use Rattle.std.specs.Prelude.{ℕ, List, map, drop}
use Rattle.format.specs.Block.{size_of}
use Rattle.leaf.specs.Leaf.{cut, PlacedBlock, placed, start_by_stepping}
use Rattle.sheet.specs.Record.{Entry}
use Rattle.sheet.specs.Image.{entry_from}
use Rattle.forms.specs.declared.entry.LentEntry.{LentEntry}
use Rattle.forms.specs.Lent.{entry_of}
use Rattle.maker.specs.declared.blocks.Blocks.{Blocks}

-- as a pass yields one: its start, its size and its entry
abbrev pub lent_block : ℕ × ℕ × LentEntry → ℕ × ℕ × Entry
lent_block b = (b.0, b.1, entry_of b.2)

-- as it is placed in a leaf
abbrev pub started_block : ℕ → PlacedBlock → ℕ × ℕ × Entry
started_block row p = (p.start, size_of row p.rest, entry_from row p.rest)

-- the leaf's rest from the next block on
abbrev pub leaf_left : Blocks → List ℕ
leaf_left b = drop b.start b.leaves.now

abbrev pub blocks_left : Blocks → List (ℕ × ℕ × Entry)
blocks_left b = map (started_block b.row) (placed b.row b.start (cut b.row b.count (leaf_left b)))

-- where they end: as many steps from the next one's start lead there
abbrev pub blocks_end : Blocks → ℕ
blocks_end b = start_by_stepping b.row b.start b.count (leaf_left b)

abbrev pub entries_in : List (ℕ × ℕ × Entry) → List Entry
entries_in bs = map (λ b. b.2) bs
