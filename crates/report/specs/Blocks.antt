-- The blocks of an image by where they stand, whether a reading is accepted or not.
use Rattle.std.specs.Prelude.{ℕ, List, take}
use Rattle.rom.specs.declared.Layout.{Layout}
use Rattle.block.specs.Answer.{Verdict}
use Rattle.block.specs.Answer.{block_in}
use Rattle.image.specs.declared.Arguments.{Arguments}
use Rattle.image.specs.Image.{is_first_version, up_to_leaves_end}
use Rattle.image.specs.Arguments.{row_for}
use Rattle.survey.specs.declared.Place.{Place}

-- what a reader finds the block at a byte to be
unfoldable pub block_from : List ℕ → Arguments → ℕ → Verdict
block_from image a start = block_in (is_first_version image) (row_for a) a.level (up_to_leaves_end a.layout image start)

-- the bytes of a block, as far as leaves go
unfoldable pub bytes_at : Layout → List ℕ → Place → List ℕ
bytes_at l image p = take p.size (up_to_leaves_end l image p.start)
