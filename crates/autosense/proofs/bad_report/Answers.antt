-- A byte above 1 in the front of the report, or no such front. Assumes nothing.
use Rattle.std.proofs.Common.{length, ltb, ◌∙◌, arith, rules, tests}
use Rattle.std.proofs.lemmas.Iterator.{YieldsList-from_slice}
use Rattle.std.proofs.lemmas.Iterator.Search.{any_from_yields_List}
use borrow.Author.Tests.{lt-ltb}
use Rattle.walk.specs.Walk.{bad_report}
use Rattle.autosense.proofs.Searches.{any_link}
use Rattle.autosense.proofs.bad_report.Goals as goal

pub returns-in-Some : goal.returns-in-Some
returns-in-Some c =
    let front = rw c.from.ensures at c.in-Some.ensures.lookup.0 in
    any_from_yields_List (ltb 1) _ _ c.any.result c.any.ensures.ran (YieldsList-from_slice c.in-Some.links.now cc)
    (λ x b q k. search (rules, tests))
    ∙ any_link _ _ _ front.1 front.2

pub returns-in-None : goal.returns-in-None
unfolding bad_report
returns-in-None c =
    simp (lt-ltb (length c.args.report.now) c.args.blocks (omega (arith, c.in-None.ensures.lookup.0)))
