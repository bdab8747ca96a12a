-- The value of the digits that are left, behind the value so far, is that of all. Assumes nothing.
use Rattle.std.proofs.Common.{◌≡◌, drop}
use Rattle.hexadecimal.specs.Offset.{value_from}
use Rattle.hexadecimal.proofs.offset.value_of.Given as goal

abbrev pub invariant-loop-byte : goal.invariant-loop-byte
invariant-loop-byte l =
    value_from l.value (drop l.byte-index l.digits) ≡ value_from 0 l.digits
