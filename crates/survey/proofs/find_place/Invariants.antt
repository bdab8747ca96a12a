-- Each turn is one step more from the first block. Assumes nothing.
use Rattle.std.proofs.Common.{◌+◌, ◌*◌, ◌≤◌}
use Rattle.leaf.proofs.Stepping.{Stands}
use Rattle.survey.proofs.find_place.Given as goal

abbrev pub invariant-loop : goal.invariant-loop
invariant-loop l = Stands l.row l.start l.blocks l.counter l.at l.rest × (l.at ≤ 1024 + 128 * l.counter)
