-- Each return is one of the laws of a block whose form is known: here the compact one. Assumes nothing.
use mathlib.Core.Path.{refl, sym, ◌∙◌}
use lib.Dec.{lit≤}
use borrow.Author.Tests.{not-true, not-false}
use Rattle.rom.specs.Bytes.{pick}
use Rattle.format.specs.Chips.{kind_compact}
use Rattle.format.specs.Block.{facts_of}
use Rattle.block.specs.Inside.{judged_as}
use Rattle.block.specs.Answer.{found}
use Rattle.block.proofs.Whole.{compact-form, past_end, not-permitted, by-fields, known-form}
use mathlib.Core.Path.{ap}
use mathlib.Core.Bool.{not}
use Rattle.block.proofs.judge_compact.Goals as goal

pub returns-then-rest-lt4 : goal.returns-then-rest-lt4
returns-then-rest-lt4 c =
    λ level. past_end level (compact-form _ _ c.requires.0 c.requires.1) c.if-rest-lt4.true

pub returns-then-not-is_permitted : goal.returns-then-not-is_permitted
returns-then-not-is_permitted c =
    λ level. not-permitted level (compact-form _ _ c.requires.0 c.requires.1)
    c.if-rest-lt4.false refl (known-form level kind_compact (lit≤ tt))
    (sym c.is_permitted.ensures ∙ not-true _ (ap not c.if-not-is_permitted.true))

pub returns : goal.returns
unfolding judged_as facts_of found pick
returns c =
    λ level. c.judge_port.ensures
    ∙ by-fields level
    (compact-form _ _ c.requires.0 c.requires.1)
    c.if-rest-lt4.false refl (known-form level kind_compact (lit≤ tt))
    (sym c.is_permitted.ensures ∙ not-false _ (ap not c.if-not-is_permitted.false))
