-- What is read of the lines that are left is read of all. Assumes nothing.
use Rattle.std.proofs.Common.{◌≡◌, length}
use Rattle.text.specs.Lines.{lines_of}
use Rattle.hexadecimal.specs.Text.{unread, lines_read}
use Rattle.hexadecimal.proofs.decode.Given as goal

abbrev pub invariant-loop-rest : goal.invariant-loop-rest
invariant-loop-rest l =
    lines_read (lines_of l.rest) l.reading ≡ lines_read (lines_of l.fn.source) unread

abbrev pub decreases-loop-rest : goal.decreases-loop-rest
decreases-loop-rest l =
    length l.rest
