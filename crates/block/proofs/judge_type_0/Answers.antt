-- With the right length what is left is the compact form, from byte 2 on. Assumes nothing.
use Rattle.rom.specs.Bytes.{pick}
use Rattle.format.specs.Block.{port, length_for}
use Rattle.block.proofs.Judged.{wrong-length, is-wrong, is_right}
use Rattle.block.proofs.judge_type_0.Goals as goal

pub returns-then-len-ne5 : goal.returns-then-len-ne5
unfolding port length_for pick
returns-then-len-ne5 c =
    wrong-length _ _ (is-wrong 0 _ c.requires.0 c.if-len-ne5.true)

pub returns : goal.returns
unfolding length_for pick
returns c =
    rw (is_right 0 _ c.requires.0 c.if-len-ne5.false) c.judge_port.ensures
