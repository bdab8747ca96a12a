-- What an image is in another layout or edition than the one that is asked for, and whether its SROM CRC fits a layout.
use Rattle.std.specs.Prelude.{ℕ, Bool, ◌&&◌, not, List, eqb, length}
use Rattle.rom.specs.declared.Layout.{Layout}
use Rattle.rom.specs.Geometry.{checked_length}
use Rattle.rom.specs.Bytes.{word_at}
use Rattle.checksum.specs.Answer.{srom_answer}
use Rattle.image.specs.declared.Arguments.{Arguments}
use Rattle.image.specs.Arguments.{in_edition}
use Rattle.reader.specs.Reading.{judge_answer}
use Rattle.report.specs.Sizes.{size_by_length}

-- the same arguments for another layout
abbrev pub laid_out : Layout → Arguments → Arguments
laid_out l a =
    record { chip = a.chip; controller = a.controller; level = a.level; layout = l; first_edition = a.first_edition }

-- with a Magic Packet block where there was none, and the other way round
abbrev pub otherwise : Arguments → Arguments
otherwise a = laid_out (record { size = a.layout.size; magic = not a.layout.magic }) a

-- of the size that a length says
abbrev pub of_length : ℕ → Arguments → Arguments
of_length n a = laid_out (record { size = size_by_length n; magic = a.layout.magic }) a

-- in the other edition
abbrev pub in_other : Arguments → Arguments
in_other a = in_edition a (not a.first_edition)

-- whether an image that is refused with a number, and that is 3, is accepted with a Magic Packet block, or without it
unfoldable pub is_accepted_otherwise : List ℕ → Arguments → ℕ → Bool
is_accepted_otherwise image a number = eqb number 3 && eqb (judge_answer image (otherwise a)).number 0

-- whether one that is refused with 1 is accepted for the size that its length says
unfoldable pub is_accepted_by_length : List ℕ → Arguments → ℕ → Bool
is_accepted_by_length image a number = eqb number 1 && eqb (judge_answer image (of_length (length image) a)).number 0

-- whether one that is refused with 11 is accepted in the other edition, as only an image of version 1 can be
unfoldable pub is_accepted_in_other : List ℕ → Arguments → ℕ → Bool
is_accepted_in_other image a number = eqb number 11 && eqb (judge_answer image (in_other a)).number 0

-- whether the SROM CRC that is stored is the board's
unfoldable pub has_srom_crc : Layout → List ℕ → Bool
has_srom_crc l image = eqb (word_at image (checked_length l)) (srom_answer l image).value
