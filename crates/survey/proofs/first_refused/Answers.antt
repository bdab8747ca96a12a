-- Each turn steps over one accepted block, and the first refused one of those left is that of the whole. Assumes nothing.
use Rattle.std.proofs.Common.{refl}
use Rattle.rom.proofs.Refusals.{not-accepted}
use Rattle.survey.proofs.Stepping.{found-number, refused-here, refused-later, refused-nowhere}
use Rattle.survey.proofs.first_refused.Goals as goal

pub returns-in-Err-clause-value : goal.returns-in-Err-clause-value
returns-in-Err-clause-value c =
    refused-here _ _ _ _ _ c.loop-k.invariant c.loop-k-test.true c.in-Err.ensures refl (not-accepted _)

pub loop-k-preserved : goal.loop-k-preserved
loop-k-preserved c =
    rw c.behind-rest.ensures
    (refused-later _ _ _ _ _ c.loop-k.invariant c.loop-k-test.true c.in-Ok.ensures refl (found-number c.in-Ok.block) c.size.ensures)

pub returns-clause-value : goal.returns-clause-value
returns-clause-value c = refused-nowhere _ _ _ _ _ c.loop-k.invariant c.loop-k-test.false
