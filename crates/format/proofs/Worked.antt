-- The blocks and the codes compute. Assumes nothing.
use mathlib.Core.Path.{refl}
use Rattle.format.specs.Cases.{said, block_cases}
use Rattle.rom.specs.Bytes.{pick, is_in}
use Rattle.format.specs.Chips.{connections21041, connections21140, connection_rows, is_connection, first_codes, later_codes, taken_as}
use Rattle.format.specs.Chips.{is_read}
use Rattle.format.specs.Claims.{BlocksWorked, CodesWorked}
use Rattle.format.proofs.Computes.{block-computes}

pub blocks-worked : BlocksWorked
unfolding block-computes said block_cases
blocks-worked = refl

pub codes-worked : CodesWorked
unfolding pick is_in connections21041 connections21140 connection_rows is_connection first_codes later_codes taken_as is_read
codes-worked = (refl, refl, refl, refl, refl)
