-- At each turn the line and what the rest of the pattern says with the values left are the whole. Assumes nothing.
use Rattle.std.proofs.Common.{◌++◌, drop}
use Rattle.text.specs.Written.{text_of, with_values}
use Rattle.text.proofs.Building.{Building}
use Rattle.text.proofs.line.Line.with.Given as goal

abbrev pub invariant-loop-byte : goal.invariant-loop-byte
invariant-loop-byte l =
    Building (text_of l.initial.self ++ with_values l.fn.values l.pattern) l.self
    (with_values l.values.rest.now (drop l.byte-index l.pattern))
