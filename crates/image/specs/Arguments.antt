-- The leaf that a reading's arguments name, and why there is none (document 01, 'The image', 'Why a call is refused').
use Rattle.std.specs.Prelude.{ℕ, List, ◌++◌, Bool, ◌&&◌}
use Rattle.rom.specs.Refusal.{Cause}
use Rattle.format.specs.Chips.{row_of}
use Rattle.image.specs.declared.Arguments.{Arguments}
use Rattle.image.specs.Image.{is_first_version, leaf_at, blocks_at, block_count, image_causes, argument_causes, leaf_header_causes}

-- ## The leaf that the arguments name

abbrev pub row_for : Arguments → ℕ
row_for a = row_of a.chip

abbrev pub leaf_for : List ℕ → Arguments → ℕ
leaf_for image a = leaf_at image a.controller

abbrev pub start_for : List ℕ → Arguments → ℕ
start_for image a = blocks_at (row_for a) (leaf_for image a)

abbrev pub count_for : List ℕ → Arguments → ℕ
count_for image a = block_count image (row_for a) (leaf_for image a)

-- whether edition 1.00 is read: other versions ignore what the caller names
abbrev pub edition_for : List ℕ → Arguments → Bool
edition_for image a = is_first_version image && a.first_edition

-- the same arguments for a reader of a level
abbrev pub at_level : Arguments → ℕ → Arguments
at_level a level =
    record { chip = a.chip; controller = a.controller; level = level; layout = a.layout; first_edition = a.first_edition }

-- and for an edition: 1.00 if true, else 1.01
abbrev pub in_edition : Arguments → Bool → Arguments
in_edition a first =
    record { chip = a.chip; controller = a.controller; level = a.level; layout = a.layout; first_edition = first }

-- ## Why a header is refused

-- 1 to 4, 29, 30, 5 to 7, 38, 8 to 11
unfoldable pub header_causes : List ℕ → Arguments → List Cause
header_causes image a =
    image_causes a.layout image
    ++ (argument_causes image a ++ leaf_header_causes a.layout image (edition_for image a) (row_for a) (leaf_for image a))
