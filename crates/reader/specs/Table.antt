-- The media table in the two lent arrays, and an entry of it as a part of the image.
use Rattle.std.specs.Prelude.{ℕ, List, ◌++◌, map, length, drop, get_or}
use Rattle.format.specs.Block.{size_of}
use Rattle.leaf.specs.Leaf.{PlacedBlock}
use Rattle.reader.specs.declared.Part.{Part}

-- an array with the table's numbers at its front, and its other elements unchanged
unfoldable pub tabled : (PlacedBlock → ℕ) → List PlacedBlock → List ℕ → List ℕ
tabled f t a = map f t ++ drop (length t) a

-- ## An entry's block as a part of the image

abbrev pub no_part : Part
no_part = record { start = 0; length = 0 }

abbrev pub part_at : ℕ → PlacedBlock → Part
part_at row b = record { start = b.start; length = size_of row b.rest }

-- the part of entry number e, counted from 0 in table order; the empty part where there is no such entry
unfoldable pub entry_part : ℕ → List PlacedBlock → ℕ → Part
entry_part row t e = get_or (map (part_at row) t) e no_part
