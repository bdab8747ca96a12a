-- One pattern with its values, and size and layout behind it. Assumes nothing.
use Rattle.std.proofs.Common.{append-nil}
use Rattle.rom.specs.Bytes.{pick}
use Rattle.rom.specs.Geometry.{with_magic}
use Rattle.text.specs.Written.{text_of}
use Rattle.report.specs.Words.{reader_words, layout_words, arguments_words}
use Rattle.report.proofs.Names.{two, three}
use Rattle.report.proofs.arguments_words.Goals as goal

pub returns-then-arguments : goal.returns-then-arguments
unfolding arguments_words pick
returns-then-arguments c =
    let a = c.args in
    rw c.if-arguments.true
    (three (text_of a.line) (reader_words a.arguments) _ (layout_words with_magic)
    (rw (← c.from.ensures, ← c.from-2.ensures, ← c.from-3.ensures) c.with-line.ensures)
    c.size_words-line.ensures c.text.ensures)

pub returns : goal.returns
unfolding arguments_words pick
returns c =
    let a = c.args in
    rw (c.if-arguments.false, append-nil)
    (two (text_of a.line) (reader_words a.arguments) _
    (rw (← c.from.ensures, ← c.from-2.ensures, ← c.from-3.ensures) c.with-line.ensures) c.size_words-line.ensures)
