-- What is found is the first option whose name the word is. Assumes nothing.
use borrow.Author.Rules.{rules}
use borrow.Author.Tests.{tests}
use Rattle.std.specs.Str.{bytes_eq}
use Rattle.std.proofs.lemmas.Iterator.{YieldsList-from_slice}
use Rattle.std.proofs.lemmas.Iterator.Consumers.{YieldsList-from_copied}
use Rattle.std.proofs.lemmas.Iterator.Search.{find_from_yields_List}
use Rattle.console.specs.Options.{option_name}
use Rattle.console.proofs.OptionNamed.{listed_options, option_found}
use Rattle.console.proofs.option.CommandOption.named.Goals as goal

pub returns : goal.returns
returns c =
    option_found _ _
    (find_from_yields_List (λ x. bytes_eq (option_name x) c.args.word.now) _ _ _ c.find.ensures.ran
    (YieldsList-from_copied (YieldsList-from_slice listed_options cc)) (λ x b q k. search (rules, tests)))
