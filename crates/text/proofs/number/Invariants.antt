-- The number so far, with the digits that are left, spells the number; and it has as many digits as are read. Assumes nothing.
use Rattle.std.proofs.Common.{◌≡◌, ◌^◌, ◌<◌, drop}
use Rattle.text.specs.Numbers.{read_on}
use Rattle.text.proofs.number.Given as goal

abbrev pub invariant-loop-byte : goal.invariant-loop-byte
invariant-loop-byte l =
    (read_on l.number (drop l.byte-index l.text) ≡ read_on 0 l.text) × (l.number < 10 ^ l.byte-index)
