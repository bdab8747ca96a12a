-- Each turn passes a good entry and adds its block's length. Assumes nothing.
use Rattle.std.proofs.Common.{sym, ap, arith}
use Rattle.writer.specs.Entries.{entries_left}
use Rattle.writer.proofs.Loops.{sized-start, sized-bad, sized-room, sized-more, sized-long, sized-none}
use Rattle.writer.proofs.entries.check_entries.Goals as goal

pub loop-entry-init : goal.loop-entry-init
loop-entry-init c =
    sized-start (ap entries_left c.into_iter-entry-iterator.ensures.into_iter_gives) c.requires

pub returns-then-is_bad : goal.returns-then-is_bad
returns-then-is_bad c =
    sized-bad c.loop-entry.invariant c.in-Some.ensures.steps _ (sym c.if-is_bad.ensures)

pub overflow_add-end : goal.overflow_add-end
overflow_add-end c =
    let r = sized-room c.loop-entry.invariant c.in-Some.ensures.steps (sym c.if-is_bad.ensures) c.block_size-end.ensures in
    omega arith

pub loop-entry-preserved : goal.loop-entry-preserved
loop-entry-preserved c =
    sized-more c.loop-entry.invariant c.in-Some.ensures.steps (sym c.if-is_bad.ensures) c.block_size-end.ensures

pub returns-then-limit-end : goal.returns-then-limit-end
returns-then-limit-end c =
    sized-long c.loop-entry.invariant c.in-None.ensures.steps.0 _ c.if-limit-end.true

pub returns : goal.returns
returns c =
    sized-none c.loop-entry.invariant c.in-None.ensures.steps.0 _ c.if-limit-end.false
