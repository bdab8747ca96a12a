-- The checker computes the row of the 21140. Assumes nothing.
use Rattle.std.proofs.Common.{lit<}
use Rattle.rom.specs.Bytes.{pick}
use Rattle.format.specs.Chips.{chips, place_of, row_of}
use Rattle.console.proofs.option.chip_of.Goals as goal

pub returns-then-eq-clause-known : goal.returns-then-eq-clause-known
unfolding row_of place_of chips pick
returns-then-eq-clause-known c = lit< tt
