-- There is no such entry, or it is that of the block which has as many entries behind it. Assumes nothing.
use Prim.Native.Nat.{◌+◌, ◌-◌, ◌≤◌}
use lib.ListN.{length}
use Rattle.reader.proofs.Finding.{Finding}
use Rattle.reader.proofs.table.find.Given as goal

abbrev pub invariant-loop-passed : goal.invariant-loop-passed
invariant-loop-passed l =
    Finding l.row l.level l.start l.count l.blocks l._passed l.rest l.at l.behind l.entry × (l._passed ≤ l.count)
    × (l.at + length l.rest ≤ l.start + length l.blocks)
