-- The definitions of a chip's row and of a block's size, opened together for the code that says the same. Assumes nothing.
use Rattle.rom.specs.Bytes.{pick, is_in}
use Rattle.format.specs.Chips.{chips, place_of, row_of, is_read, later_codes}
use Rattle.format.specs.Chips.{connections21041, connections21140, connections21142, connection_rows, is_connection}
use Rattle.format.specs.Block.{is_extended, length_of, size_of}

unfoldable pub row_computes : Unit {0}
unfolding pick chips place_of row_of
row_computes = tt

unfoldable pub connections_compute : Unit {0}
unfolding is_in connections21041 connections21140 connections21142 connection_rows is_connection
connections_compute = tt

unfoldable pub read_computes : Unit {0}
unfolding pick is_in is_read later_codes
read_computes = tt

unfoldable pub size_computes : Unit {0}
unfolding pick is_extended length_of size_of
size_computes = tt
