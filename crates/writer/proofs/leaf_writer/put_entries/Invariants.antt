-- Each turn writes one block behind those before it. Assumes nothing.
use Rattle.writer.specs.Entries.{entries_left}
use Rattle.writer.proofs.Loops.{FilledRoom}
use Rattle.writer.proofs.leaf_writer.put_entries.Given as goal

abbrev pub invariant-loop-entry : goal.invariant-loop-entry
invariant-loop-entry l =
    FilledRoom l.initial.room l.start (entries_left l.entries) l.room (entries_left l.entry-iterator) l.to
