-- As many are taken as pass from the front on. Assumes nothing.
use Rattle.std.proofs.Common.{true, rules, ◌∙◌}
use borrow.Author.Tests.{tests}
use Rattle.std.proofs.lemmas.Iterator.{YieldsList-from_slice}
use Rattle.std.proofs.lemmas.Iterator.Consumers.{count_from_yields_List}
use Rattle.std.proofs.lemmas.Iterator.Search.{YieldsList-from_take_while}
use Rattle.std.proofs.lemmas.List.Folds.{length-prefix_len}
use Rattle.hexadecimal.specs.Offset.{is_of}
use Rattle.hexadecimal.proofs.Steps.{run-prefix}
use Rattle.hexadecimal.proofs.offset.digit_run.Goals as goal

pub returns : goal.returns
returns c =
    let s = c.args.source.now in
    count_from_yields_List c.take_while.result _ c.count.ensures.ran
    (YieldsList-from_take_while _ (is_of true) (YieldsList-from_slice s cc) c.take_while.ensures.closure c.take_while.ensures.done
    (λ x b q k. search (rules, tests)))
    ∙ length-prefix_len (is_of true) s ∙ run-prefix true s
