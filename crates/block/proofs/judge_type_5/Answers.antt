-- The length decides. Assumes nothing.
use mathlib.Core.Path.{refl}
use Rattle.rom.specs.Bytes.{pick}
use Rattle.format.specs.Block.{sequence, length_for}
use Rattle.block.proofs.Judged.{wrong-length, fine, is-wrong, is_right}
use Rattle.block.proofs.judge_type_5.Goals as goal

pub returns-then-len-resets : goal.returns-then-len-resets
unfolding sequence length_for pick
returns-then-len-resets c =
    wrong-length _ _ (is-wrong 5 _ c.requires.0 (rw c.count_at-resets.ensures.0 at c.if-len-resets.true))

pub returns : goal.returns
unfolding sequence length_for pick
returns c =
    fine _ _ (is_right 5 _ c.requires.0 (rw c.count_at-resets.ensures.0 at c.if-len-resets.false)) refl refl
