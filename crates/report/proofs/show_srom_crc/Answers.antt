-- The places are small, by the layout's geometry. Assumes nothing.
use Rattle.std.proofs.Common.{arith}
use Rattle.rom.proofs.Layouts.{geometry}
use Rattle.report.proofs.show_srom_crc.Goals as goal

pub overflow_add-at : goal.overflow_add-at
overflow_add-at c = let g = geometry c.args.layout in omega arith

pub overflow_sub-at : goal.overflow_sub-at
overflow_sub-at c = let g = geometry c.args.layout in omega arith
