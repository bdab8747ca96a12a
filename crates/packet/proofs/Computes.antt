-- The definitions of a Magic Packet block, opened together for what computes: `unfolding magic-computes`.
use Rattle.rom.specs.Geometry.{is_size, wrong_length, other_size, image_length, magic_at, magic_word, board_length}
use Rattle.rom.specs.Geometry.{checked_length, leaves_end, most_controllers}
use Rattle.rom.specs.Bytes.{pick, word_at, all_zero}
use Rattle.rom.specs.Store.{word_bytes}
use Rattle.rom.specs.Refusal.{first_met}
use Rattle.checksum.specs.Crc.{magic_crc}
use Rattle.packet.specs.Block.{magic_in, bad_crc, reserved_bytes, bad_reserved, fields_of, block_with, laid_with, with_block}
use Rattle.packet.specs.Answer.{magic_block_causes, magic_length_cause, magic_read_causes, magic_read_number, no_magic, magic_reading}
use Rattle.packet.specs.Answer.{magic_write_causes, magic_write_number, magic_written}

-- the geometry of either layout
unfoldable pub layout-computes : Unit {0}
unfolding is_size wrong_length other_size image_length magic_at magic_word board_length checked_length leaves_end most_controllers pick
layout-computes = tt

unfoldable pub magic-computes : Unit {0}
unfolding layout-computes word_at all_zero word_bytes first_met magic_crc magic_in bad_crc reserved_bytes bad_reserved fields_of block_with
    laid_with with_block
    magic_block_causes magic_length_cause magic_read_causes magic_read_number no_magic magic_reading magic_write_causes magic_write_number
    magic_written
magic-computes = tt
