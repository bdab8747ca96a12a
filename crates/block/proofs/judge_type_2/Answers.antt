-- With the right length what is left is the 21041's form, from byte 2 on. Assumes nothing.
use mathlib.Core.Path.{sym, ◌∙◌}
use Rattle.format.specs.Block.{sia}
use Rattle.block.proofs.Judged.{wrong-length, is-wrong, is_right, type-2}
use Rattle.block.proofs.judge_type_2.Goals as goal

pub returns-then-len-size : goal.returns-then-len-size
unfolding sia
returns-then-len-size c =
    wrong-length _ _
    (is-wrong 2 _ c.requires.0
    (λ e. (rw (c.sia_size-size.ensures.0, c.byte_at.ensures) at c.if-len-size.true) (e ∙ type-2 _)))

pub returns : goal.returns
returns c =
    rw
    (is_right 2 _ c.requires.0
    (rw (c.sia_size-size.ensures.0, c.byte_at.ensures) at c.if-len-size.false ∙ sym (type-2 _)))
    c.judge_sia.ensures
