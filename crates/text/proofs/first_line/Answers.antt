-- The place that is found is where the first line ends. Assumes nothing.
use Rattle.std.proofs.Common.{rules}
use borrow.Author.Tests.{tests}
use Rattle.std.proofs.lemmas.Iterator.{YieldsList-from_slice}
use Rattle.std.proofs.lemmas.Iterator.Search.{position_from_yields_List}
use Rattle.text.proofs.Lines.{is_end, first-ends}
use Rattle.text.proofs.first_line.Goals as goal

pub returns : goal.returns
returns c =
    let s = c.args.text.now in
    let found = position_from_yields_List is_end _ _ _ c.position.ensures.ran (YieldsList-from_slice s cc)
    (λ x b q k. search (rules, tests)) in
    first-ends s found c.unwrap_or-end.ensures
