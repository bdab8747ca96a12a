-- The worked image, by computation. Assumes nothing.
use mathlib.Core.Path.{refl}
use Rattle.rom.specs.Geometry.{image_length, magic_at, magic_word, board_length, checked_length}
use Rattle.rom.specs.Bytes.{pick}
use Rattle.checksum.specs.Crc.{srom_crc, id_crc, magic_crc}
use Rattle.checksum.specs.Claims.{CrcsWorked}

pub crcs-worked : CrcsWorked
unfolding srom_crc id_crc magic_crc checked_length board_length pick image_length magic_at magic_word
crcs-worked = (refl, refl, refl, refl, refl, refl, refl)
