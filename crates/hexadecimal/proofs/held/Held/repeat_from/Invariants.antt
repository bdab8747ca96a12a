-- What is left to repeat makes the whole of what there is. Assumes nothing.
use Rattle.std.proofs.Common.{◌≡◌, ◌+◌, ◌-◌}
use Rattle.hexadecimal.specs.Held.{repeated_from}
use Rattle.hexadecimal.proofs.held.Held.repeat_from.Given as goal

abbrev pub invariant-loop-at : goal.invariant-loop-at
invariant-loop-at l =
    repeated_from l.at (l.start + l.count - l.at) l.self ≡ repeated_from l.start l.count l.initial.self
