-- The length decides. Assumes nothing.
use mathlib.Core.Path.{refl}
use Rattle.rom.specs.Bytes.{pick}
use Rattle.format.specs.Block.{sequence, g_count, length_for}
use Rattle.block.proofs.Judged.{wrong-length, fine, is-wrong, is_right}
use Rattle.block.proofs.judge_type_6.Goals as goal

pub returns-then-len-words : goal.returns-then-len-words
unfolding sequence length_for g_count pick
returns-then-len-words c =
    wrong-length _ _ (is-wrong 6 _ c.requires.0 (rw c.count_at-words.ensures.0 at c.if-len-words.true))

pub returns : goal.returns
unfolding sequence length_for g_count pick
returns c =
    rw c.byte_at-mode.ensures
    (fine _ _
    (is_right 6 _ c.requires.0
    (rw c.count_at-words.ensures.0 at c.if-len-words.false)) refl refl)
