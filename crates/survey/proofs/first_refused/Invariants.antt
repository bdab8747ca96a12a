-- Each turn steps over one accepted block, and the first refused one of those left is that of the whole. Assumes nothing.
use Rattle.std.proofs.Common.{◌≡◌, ◌-◌}
use Rattle.leaf.specs.Leaf.{cut, first_from}
use Rattle.survey.specs.Survey.{is_refused}
use Rattle.survey.proofs.first_refused.Given as goal

abbrev pub invariant-loop-k : goal.invariant-loop-k
invariant-loop-k l =
    first_from (is_refused l.first_version l.row l.level) l.k (cut l.row (l.count - l.k) l.rest)
    ≡ first_from (is_refused l.first_version l.row l.level) 0 (cut l.row l.count l.blocks)
