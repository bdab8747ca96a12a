-- As many are taken as pass from the front on. Assumes nothing.
use Rattle.std.proofs.Common.{◌≡◌, false, drop, length-drop, arith, rules, ap, ◌∙◌}
use lib.Seq.{take_all}
use borrow.Author.Tests.{tests}
use Rattle.std.proofs.lemmas.Iterator.{YieldsList-from_slice}
use Rattle.std.proofs.lemmas.Iterator.Consumers.{count_from_yields_List}
use Rattle.std.proofs.lemmas.Iterator.Search.{YieldsList-from_take_while}
use Rattle.std.proofs.lemmas.List.Folds.{length-prefix_len}
use Rattle.rom.specs.Bytes.{pick}
use Rattle.hexadecimal.specs.Offset.{is_of, run_of, without_blanks}
use Rattle.hexadecimal.proofs.Steps.{run-prefix}
use Rattle.hexadecimal.proofs.offset.without_blanks.Goals as goal

pub returns : goal.returns
unfolding without_blanks is_of pick
returns c =
    let s = c.args.line.now in
    let taken : c.count-blanks.result ≡ run_of false s = count_from_yields_List c.take_while.result _ c.count-blanks.ensures.ran
    (YieldsList-from_take_while _ (is_of false) (YieldsList-from_slice s cc) c.take_while.ensures.closure c.take_while.ensures.done
    (λ x b q k. search (rules, tests)))
    ∙ length-prefix_len (is_of false) s ∙ run-prefix false s in
    take_all _ _ (simp length-drop (omega arith)) ∙ ap (λ n. drop n s) taken
