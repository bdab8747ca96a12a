-- Each turn goes on behind a block, and adds its body's size. Assumes nothing.
use Rattle.maker.specs.Blocks.{blocks_left}
use Rattle.maker.proofs.Filling.{MeasuredBlocks}
use Rattle.maker.proofs.parts.measure.Given as goal

abbrev pub invariant-loop-start : goal.invariant-loop-start
invariant-loop-start l =
    MeasuredBlocks l.blocks (blocks_left l.start-iterator) l.measured.end l.measured.bodies
