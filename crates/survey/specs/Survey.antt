-- The blocks of a leaf by their numbers, for readings that are accepted and for those that are not (document 01, 'Leaf and
-- blocks': blocks are numbered from 0 as they stand).
use Rattle.std.specs.Prelude.{ℕ, List, [], Bool, ◌&&◌, not, eqb, ltb, get_or, Option, Some, None}
use Rattle.rom.specs.Geometry.{none}
use Rattle.rom.specs.Bytes.{pick}
use Rattle.rom.specs.Refusal.{first_met}
use Rattle.format.specs.Block.{size_of, kind_of, refusal_in}
use Rattle.image.specs.declared.Arguments.{Arguments}
use Rattle.image.specs.Image.{is_first_version}
use Rattle.image.specs.Arguments.{row_for, start_for, count_for, header_causes}
use Rattle.leaf.specs.Leaf.{first_from, placed, PlacedBlock}
use Rattle.reader.specs.Reading.{blocks_for}
use Rattle.survey.specs.declared.Place.{Place}

-- whether nothing before the blocks refuses the reading (1 to 11)
abbrev pub has_leaf : List ℕ → Arguments → Bool
has_leaf image a = eqb (first_met (header_causes image a)) 0

-- whether it has a leaf with a block k
abbrev pub has_block : List ℕ → Arguments → ℕ → Bool
has_block image a k = has_leaf image a && ltb k (count_for image a)

-- ## Where a block stands

abbrev pub no_place : Place
no_place = record { start = 0; size = 0; kind = 0 }

abbrev pub place_or_nowhere : Option Place → Place
place_or_nowhere (Some p) = p
place_or_nowhere None = no_place

abbrev pub place_at : ℕ → PlacedBlock → Place
place_at row p = record { start = p.start; size = size_of row p.rest; kind = kind_of row p.rest }

-- block k of the leaf that the arguments name, which no level changes
abbrev pub standing_for : List ℕ → Arguments → ℕ → PlacedBlock
standing_for image a k = get_or (placed (row_for a) (start_for image a) (blocks_for image a)) k (record { start = 0; rest = [] })

unfoldable pub place_for : List ℕ → Arguments → ℕ → Place
place_for image a k = pick (has_block image a k) (place_at (row_for a) (standing_for image a k)) no_place

-- ## Which block is refused

-- `first` is whether the image is of version 1
unfoldable pub is_refused : Bool → ℕ → ℕ → List ℕ → Bool
is_refused first row level s = not (eqb (refusal_in first row level s) 0)

-- the first one's number, none where none is
unfoldable pub refused_for : List ℕ → Arguments → ℕ
refused_for image a = pick (has_leaf image a) (first_from (is_refused (is_first_version image) (row_for a) a.level) 0 (blocks_for image a))
    none
