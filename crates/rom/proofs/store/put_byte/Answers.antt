-- One store, if there is room for it. Assumes nothing.
use Rattle.std.proofs.Common.{arith, sym, ◌∙◌}
use Rattle.rom.proofs.Put.{put_one, laid-put, laid_kept}
use Rattle.rom.proofs.store.put_byte.Goals as goal

pub returns-then-at-out : goal.returns-then-at-out
returns-then-at-out c = put_one _ _ _ (omega arith) ∙ sym (laid-put _ _ _ (omega arith))

pub returns-else-at-out : goal.returns-else-at-out
returns-else-at-out c = laid_kept _ _ _ (omega arith)
