-- What does not fit is left out; else it is a whole copy into the part of its length. Assumes nothing.
use Rattle.std.proofs.Common.{arith, sym, ◌∙◌}
use Rattle.rom.proofs.Put.{put-part, laid-put, laid_kept}
use Rattle.rom.proofs.store.put_bytes.Goals as goal
use Rattle.rom.proofs.store.put_bytes.Goals.{else-start-out-via-then-start-out+else-source-out, else-start-out-via-else-start-out}

pub returns-then-source-out : goal.returns-then-source-out
returns-then-source-out c = put-part _ _ _ _ c.copy_from_slice.ensures.after ∙ sym (laid-put _ _ _ (omega arith))

pub returns-else-start-out : goal.returns-else-start-out
returns-else-start-out c = elim c.else-start-out.branch [
  | else-start-out-via-then-start-out+else-source-out w ↦ laid_kept _ _ _ (omega arith)
  | else-start-out-via-else-start-out w ↦ laid_kept _ _ _ (omega arith)
]
