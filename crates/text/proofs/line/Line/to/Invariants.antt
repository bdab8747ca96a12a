-- At each turn the line and the blanks that are missing are the whole. Assumes nothing.
use Rattle.std.proofs.Common.{◌-◌, replicate}
use Rattle.text.proofs.Building.{Building}
use Rattle.text.specs.Tables.{blank}
use Rattle.text.specs.Written.{text_of, blanks_to}
use Rattle.text.proofs.line.Line.to.Given as goal

abbrev pub invariant-loop : goal.invariant-loop
invariant-loop l =
    Building (blanks_to l.column (text_of l.initial.self)) l.self (replicate (l.column - l.counter) blank)
