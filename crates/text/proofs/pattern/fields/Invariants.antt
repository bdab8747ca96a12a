-- At each turn the line and what the rest of the pattern says are the whole. Assumes nothing.
use Rattle.std.proofs.Common.{◌++◌}
use Rattle.text.specs.Written.{text_of, with_fields}
use Rattle.text.proofs.Building.{Building}
use Rattle.text.proofs.pattern.fields.Given as goal

abbrev pub invariant-loop-byte : goal.invariant-loop-byte
invariant-loop-byte l =
    Building (text_of l.initial.line ++ with_fields l.bytes l.pattern-2) l.line (with_fields l.bytes l.pattern.rest.now)
