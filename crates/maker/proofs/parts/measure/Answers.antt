-- Each turn goes on behind a block, and adds its body's size. Assumes nothing.
use Rattle.std.proofs.Common.{ap, arith}
use Rattle.maker.specs.Blocks.{blocks_left}
use Rattle.maker.proofs.Filling.{measured-start, measured-end, measured-more}
use Rattle.maker.proofs.parts.measure.Goals as goal

pub loop-start-init : goal.loop-start-init
loop-start-init c =
    measured-start c.args.blocks (ap blocks_left c.into_iter-start-iterator.ensures.into_iter_gives)

pub overflow_add-measured : goal.overflow_add-measured
overflow_add-measured c =
    let i = measured-more c.loop-start.invariant c.in-Some.ensures.steps in omega (arith, i.running.inside)

pub overflow_add-measured-in-loop-start : goal.overflow_add-measured-in-loop-start
overflow_add-measured-in-loop-start c =
    let i = measured-more c.loop-start.invariant c.in-Some.ensures.steps in omega (arith, i.less, i.running.inside)

pub loop-start-preserved : goal.loop-start-preserved
loop-start-preserved c =
    measured-more c.loop-start.invariant c.in-Some.ensures.steps

pub returns : goal.returns
returns c =
    let i = c.loop-start.invariant in
    let both = measured-end i c.in-None.ensures.steps.0 in
    record { end = both.0; bodies = both.1; within = (i.running.inside, i.less) }
