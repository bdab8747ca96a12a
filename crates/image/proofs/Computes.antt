-- The definitions of an image's header, opened together for what computes: `unfolding header-computes`. The CRCs stay shut.
use Rattle.rom.specs.Bytes.{is_in, keep}
use Rattle.packet.proofs.Computes.{magic-computes}
use Rattle.format.specs.Chips.{chips, place_of, row_of, connections21041, connections21140, connections21142}
use Rattle.format.specs.Chips.{connection_rows, is_connection}
use Rattle.format.specs.Chips.{first_chips, later_codes, taken_as, is_read}
use Rattle.image.specs.Image.{versions, is_first_version, controller_count, reserved_at, base_address, address_of, leaf_at, header_length}
use Rattle.image.specs.Image.{control_byte, blocks_at, block_count, up_to_leaves_end, bad_count, magic_causes}
use Rattle.image.specs.Image.{image_causes, argument_causes}
use Rattle.image.specs.Image.{leaf_header_causes}
use Rattle.image.specs.Arguments.{header_causes}

unfoldable pub header-computes : Unit {0}
unfolding is_in keep magic-computes
    chips place_of row_of connections21041 connections21140 connections21142 connection_rows is_connection first_chips later_codes taken_as
    is_read
    versions is_first_version controller_count reserved_at base_address address_of leaf_at header_length control_byte blocks_at block_count
    up_to_leaves_end bad_count magic_causes image_causes argument_causes leaf_header_causes header_causes
header-computes = tt
