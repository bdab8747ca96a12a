-- The lines are the parts. Assumes nothing.
use Rattle.std.proofs.Common.{rules, get_or, [], refl, ap, ◌∙◌}
use borrow.Author.Tests.{tests}
use Rattle.std.proofs.lemmas.Iterator.Splits.{YieldsList-from_slice_split}
use Rattle.std.proofs.lemmas.Iterator.Consumers.{nth_from_yields_List}
use Rattle.text.specs.Lines.{lines_of}
use Rattle.text.proofs.Lines.{is_end, line-at}
use Rattle.text.proofs.line_number.Goals as goal

pub returns : goal.returns
returns c =
    let s = c.args.text.now in
    let found = nth_from_yields_List c.nth.result _ _ c.nth.ensures.ran
    (YieldsList-from_slice_split _ is_end s c.split.ensures.rest c.split.ensures.done c.split.ensures.closure
    (λ x b q k. search (rules, tests))) in
    ap (λ x. x.now) c.unwrap_or.ensures ∙ line-at s _ _ _ refl found ∙ ap (λ n. get_or (lines_of s) n []) c.saturating_sub.ensures
