-- The row and the first byte give the form. Assumes nothing.
use Rattle.block.proofs.judge_block.Goals as goal

pub returns-then-row-eq-ROW_21041 : goal.returns-then-row-eq-ROW_21041
returns-then-row-eq-ROW_21041 c =
    rw c.if-row-eq-ROW_21041.true (c.judge_21041.ensures _)

pub returns-then-byte_at-lt128 : goal.returns-then-byte_at-lt128
returns-then-byte_at-lt128 c =
    c.judge_compact.ensures _
