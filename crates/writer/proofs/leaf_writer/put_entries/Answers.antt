-- Each turn writes one block behind those before it. Assumes nothing.
use Rattle.std.proofs.Common.{ap}
use Rattle.writer.specs.Entries.{entries_left}
use Rattle.writer.proofs.Loops.{filled-start, filled-end, filled-fits, filled-more}
use Rattle.writer.proofs.leaf_writer.put_entries.Goals as goal

pub loop-entry-init : goal.loop-entry-init
loop-entry-init c =
    filled-start (ap entries_left c.into_iter-entry-iterator.ensures.into_iter_gives) c.requires

pub put_block-to-requires : goal.put_block-to-requires
put_block-to-requires c =
    filled-fits c.loop-entry.invariant c.in-Some.ensures.steps

pub loop-entry-preserved : goal.loop-entry-preserved
loop-entry-preserved c =
    filled-more c.loop-entry.invariant c.in-Some.ensures.steps c.put_block-to.ensures.value c.put_block-to.ensures.room_after

pub returns : goal.returns
returns c =
    filled-end c.loop-entry.invariant c.in-None.ensures.steps.0
