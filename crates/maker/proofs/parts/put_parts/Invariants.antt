-- Each turn lays in the three pieces of the block at the running start. Assumes nothing.
use Rattle.maker.specs.Blocks.{blocks_left}
use Rattle.maker.proofs.Filling.{FillingBlocks}
use Rattle.maker.proofs.parts.put_parts.Given as goal

abbrev pub invariant-loop-entry : goal.invariant-loop-entry
invariant-loop-entry l =
    FillingBlocks l.blocks (blocks_left l.entry-iterator) l.initial.sheet l.sheet l.kind_at l.size_at l.body_at
