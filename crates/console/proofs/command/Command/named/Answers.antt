-- What is found is the first command whose name the word is. Assumes nothing.
use borrow.Author.Rules.{rules}
use borrow.Author.Tests.{tests}
use Rattle.std.specs.Str.{bytes_eq}
use Rattle.std.proofs.lemmas.Iterator.{YieldsList-from_slice}
use Rattle.std.proofs.lemmas.Iterator.Consumers.{YieldsList-from_copied}
use Rattle.std.proofs.lemmas.Iterator.Search.{find_from_yields_List}
use Rattle.console.specs.Commands.{command_name}
use Rattle.console.proofs.CommandNamed.{listed_commands, command_found}
use Rattle.console.proofs.command.Command.named.Goals as goal

pub returns : goal.returns
returns c =
    command_found _ _
    (find_from_yields_List (λ x. bytes_eq (command_name x) c.args.word.now) _ _ _ c.find.ensures.ran
    (YieldsList-from_copied (YieldsList-from_slice listed_commands cc)) (λ x b q k. search (rules, tests)))
