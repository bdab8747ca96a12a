-- The version is a later one, the block is not extended, or it is refused. Assumes nothing.
use Rattle.block.proofs.Versions.{judged-later, judged-alike, judged-past, judged-extended}
use Rattle.block.proofs.judge_in.Goals as goal
use Rattle.block.proofs.judge_in.Goals.{else-first_version-via-then-first_version+else-is_extended}
use Rattle.block.proofs.judge_in.Goals.{else-first_version-via-else-first_version}

pub returns-then-rest-size_at : goal.returns-then-rest-size_at
returns-then-rest-size_at c =
    judged-past _ _ _ _ c.if-first_version.true c.is_extended.ensures c.if-is_extended.true c.size_at.ensures c.if-rest-size_at.true

pub returns-then-is_extended : goal.returns-then-is_extended
returns-then-is_extended c =
    judged-extended _ _ _ _ c.if-first_version.true c.is_extended.ensures c.if-is_extended.true c.size_at.ensures c.if-rest-size_at.false

pub returns : goal.returns
returns c = elim c.else-first_version.branch [
  | else-first_version-via-then-first_version+else-is_extended w ↦
      judged-alike _ _ _ _ w.if-first_version.true w.is_extended.ensures w.if-is_extended.false c.judge_block.ensures
  | else-first_version-via-else-first_version w ↦ judged-later _ _ _ _ w.if-first_version.false c.judge_block.ensures
]
