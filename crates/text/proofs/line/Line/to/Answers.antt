-- At each turn the line and the blanks that are missing are the whole. Assumes nothing.
use Rattle.text.specs.Written.{blanks_to}
use Rattle.text.proofs.Building.{begun, blanks-next, blanks-done}
use Rattle.text.proofs.line.Line.to.Goals as goal

pub loop-init : goal.loop-init
unfolding blanks_to
loop-init c = rw c.len-length.ensures.value (begun c.args.self _)

pub loop-preserved : goal.loop-preserved
loop-preserved c = blanks-next _ _ _ c.loop.invariant c.loop-test.true c.byte-self.ensures

pub returns : goal.returns
returns c = blanks-done _ _ _ c.loop.invariant c.loop-test.false
