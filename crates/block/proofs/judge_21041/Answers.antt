-- Each return is one of the laws of a block whose form is known: here the 21041's. Assumes nothing.
use mathlib.Core.Path.{refl, ◌∙◌}
use lib.Dec.{lit≤}
use Rattle.rom.specs.Bytes.{pick, is_in}
use Rattle.format.specs.Chips.{is_permitted, permitted_rows, kind21041}
use Rattle.format.specs.Block.{facts_of}
use Rattle.block.specs.Inside.{judged_as}
use Rattle.block.specs.Answer.{found}
use Rattle.block.proofs.Whole.{form-21041, past_end, by-fields, known-form}
use Rattle.block.proofs.judge_21041.Goals as goal

pub returns-then-rest-size : goal.returns-then-rest-size
returns-then-rest-size c =
    λ level. past_end level (form-21041 _) (rw (c.sia_size-size.ensures.0, c.byte_at.ensures) at c.if-rest-size.true)

pub returns : goal.returns
unfolding judged_as facts_of found pick is_permitted permitted_rows is_in
returns c =
    λ level. rw (c.sia_size-size.ensures.0, c.byte_at.ensures) at c.judge_sia.ensures
    ∙ by-fields level (form-21041 _)
    (rw (c.sia_size-size.ensures.0, c.byte_at.ensures) at c.if-rest-size.false) refl
    (known-form level kind21041 (lit≤ tt)) refl
