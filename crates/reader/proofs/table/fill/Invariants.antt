-- Each turn stores one block's entry, and the table of the blocks that are left completes the arrays. Assumes nothing.
use Prim.Native.Nat.{◌+◌, ◌-◌, ◌≤◌}
use lib.ListN.{length}
use Rattle.reader.proofs.Filling.{FillingTable}
use Rattle.reader.proofs.table.fill.Given as goal

abbrev pub invariant-loop-passed : goal.invariant-loop-passed
invariant-loop-passed l =
    FillingTable l.row l.level l.start l.count l.blocks l._passed l.rest l.at l.free l.initial.kinds l.initial.offsets l.kinds l.offsets
    × (l._passed ≤ l.count)
    × (l.at + length l.rest ≤ l.start + length l.blocks)
