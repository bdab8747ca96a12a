-- Each turn passes a good entry and adds its block's length. Assumes nothing.
use Rattle.writer.specs.Entries.{entries_left}
use Rattle.writer.proofs.Loops.{SizedBodies}
use Rattle.writer.proofs.entries.check_entries.Given as goal

abbrev pub invariant-loop-entry : goal.invariant-loop-entry
invariant-loop-entry l =
    SizedBodies l.row l.start (entries_left l.entries) (entries_left l.entry-iterator) l.end
