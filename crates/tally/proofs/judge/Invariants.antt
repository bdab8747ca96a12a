-- Each turn counts one block, and what is counted and what is left make up the whole. Assumes nothing.
use Rattle.std.proofs.Common.{◌-◌}
use Rattle.leaf.specs.Leaf.{cut}
use Rattle.tally.specs.Answer.{counted}
use Rattle.tally.proofs.Modes.{Modes}
use Rattle.tally.proofs.Counts.{Tallied}
use Rattle.tally.proofs.judge.Given as goal

abbrev pub invariant-loop-number : goal.invariant-loop-number
invariant-loop-number l = record {
  counted : Tallied l.first_version l.row l.level (cut l.row l.count l.blocks) (cut l.row (l.count - l.number) l.rest) l.number
      (counted l.tally);
  modes : Modes l.row l.level (cut l.row l.count l.blocks) (cut l.row (l.count - l.number) l.rest) l.modes l.repeated;
}
