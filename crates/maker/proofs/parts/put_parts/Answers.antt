-- Each turn lays in the three pieces of the block at the running start. Assumes nothing.
use Rattle.std.proofs.Common.{sym, ap, ◌∙◌, arith}
use Rattle.maker.specs.Blocks.{leaf_left, blocks_left, entries_in}
use Rattle.maker.proofs.Turns.{running-first, running-more}
use Rattle.maker.proofs.Sheets.{count-is}
use Rattle.maker.proofs.Filling.{filling-start, filling-end, fill-room, filling-more}
use Rattle.maker.proofs.parts.put_parts.Goals as goal

pub loop-entry-init : goal.loop-entry-init
loop-entry-init c =
    let b = c.args.blocks in
    let whole = ap blocks_left c.into_iter-entry-iterator.ensures.into_iter_gives in
    record {
      start = b.start;
      running = running-first b whole;
      filling = filling-start (ap entries_in whole) (c.from-count.ensures ∙ sym (count-is b.row b.count b.start (leaf_left b))) c.requires;
    }

pub put_entry-requires : goal.put_entry-requires
put_entry-requires c =
    let r = fill-room c.loop-entry.invariant.filling (ap entries_in c.in-Some.ensures.steps) in
    let t = running-more c.loop-entry.invariant.running c.in-Some.ensures.steps in
    record { kind_at_in_bounds = (r.0, r.1); body_in_bounds = (r.2, omega (arith, t.small, t.body)) }

pub overflow_add-body_at-in-loop-entry : goal.overflow_add-body_at-in-loop-entry
overflow_add-body_at-in-loop-entry c =
    let r = fill-room c.loop-entry.invariant.filling (ap entries_in c.in-Some.ensures.steps) in omega (arith, r.2)

pub loop-entry-preserved : goal.loop-entry-preserved
loop-entry-preserved c =
    record {
      start = _;
      running = (running-more c.loop-entry.invariant.running c.in-Some.ensures.steps).running;
      filling = filling-more c.loop-entry.invariant.filling (ap entries_in c.in-Some.ensures.steps) c.put_entry.ensures;
    }

pub returns : goal.returns
returns c =
    filling-end c.loop-entry.invariant.filling (ap entries_in c.in-None.ensures.steps.0)
