-- What is left to feed after some words is the words behind them. Assumes nothing.
use Rattle.std.proofs.Common.{◌≡◌, ◌+◌, ◌-◌}
use Rattle.checksum.specs.Crc.{crc8_words, ones}
use Rattle.crc.proofs.crc8.of.Given as goal

abbrev pub invariant-loop-low : goal.invariant-loop-low
invariant-loop-low l =
    crc8_words (l.fn.count - l.low-index) (l.fn.first.0 + l.low-index) l.register l.image
    ≡ crc8_words l.fn.count l.fn.first.0 (ones 8) l.image
