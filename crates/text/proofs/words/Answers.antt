-- The first line that has the key is found among the parts. Assumes nothing.
use Rattle.std.proofs.Common.{rules, drop, length, refl, ap, ◌∙◌}
use borrow.Author.Tests.{tests}
use Rattle.std.proofs.lemmas.Iterator.Splits.{YieldsList-from_slice_split}
use Rattle.std.proofs.lemmas.Iterator.Search.{find_from_yields_List}
use Rattle.text.specs.Tables.{has_key}
use Rattle.text.proofs.Lines.{is_end}
use Rattle.text.proofs.Tables.{words-found}
use Rattle.text.proofs.words.Goals as goal

pub returns : goal.returns
returns c =
    let s = c.args.table.now in
    let key = c.args.key.now in
    let found = find_from_yields_List (has_key key) _ _ c.find.result c.find.ensures.ran
    (YieldsList-from_slice_split _ is_end s c.split.ensures.rest c.split.ensures.done c.split.ensures.closure
    (λ x b q k. search (rules, tests)))
    (λ x b q k. search (rules, tests)) in
    c.from-2.ensures ∙ ap (drop 1) (c.from.ensures ∙ ap (λ x. drop (length key) x.now) c.unwrap_or-line.ensures)
    ∙ words-found key s _ _ refl found
