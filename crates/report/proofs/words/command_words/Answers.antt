-- The names are those of the list. Assumes nothing.
use Rattle.report.specs.Words.{command_names, command_words}
use Rattle.report.proofs.words.command_words.Goals as goal

pub returns : goal.returns
unfolding command_words command_names
returns c = c.bit_words.ensures
