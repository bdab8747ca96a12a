-- What is read of the rest of the row is read of the whole. Assumes nothing.
use Rattle.std.proofs.Common.{◌≡◌, drop}
use Rattle.hexadecimal.specs.Group.{no_group}
use Rattle.hexadecimal.specs.Text.{row_from}
use Rattle.hexadecimal.proofs.held.Held.read_row.Given as goal

abbrev pub invariant-loop-byte : goal.invariant-loop-byte
invariant-loop-byte l =
    row_from l.form l.group (drop l.byte-index l.row) l.self ≡ row_from l.form no_group l.row l.initial.self
