-- Nothing set is none, and else the names are those of the list. Assumes nothing.
use borrow.Author.Tests.{eq-eqb, ne_eqb}
use Rattle.rom.specs.Bytes.{pick}
use Rattle.report.specs.Words.{mode_names, mode_words}
use Rattle.report.proofs.words.mode_words.Goals as goal

pub returns-then-mode-eq0 : goal.returns-then-mode-eq0
unfolding mode_words pick
returns-then-mode-eq0 c = rw (eq-eqb _ _ c.if-mode-eq0.true) c.text.ensures

pub returns : goal.returns
unfolding mode_words mode_names pick
returns c = rw (ne_eqb _ _ c.if-mode-eq0.false, ← c.from.ensures) c.bit_words.ensures
