-- After each turn the rows are those of the blocks that are passed. Assumes nothing.
use Rattle.std.proofs.Common.{◌-◌}
use Rattle.leaf.specs.Leaf.{cut}
use Rattle.autosense.proofs.Flags.{Filled}
use Rattle.autosense.proofs.rows_of.Given as goal

abbrev pub invariant-loop-number : goal.invariant-loop-number
invariant-loop-number l =
    Filled l.connection l.row l.level (cut l.row l.count l.blocks) (cut l.row (l.count - l.number) l.rest) l.number l.rows
