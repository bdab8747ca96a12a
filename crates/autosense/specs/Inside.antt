-- What the contracts of inner functions cite.
use Rattle.std.specs.Prelude.{ℕ, true, Option, Some, None}
use Rattle.walk.specs.declared.Walk.{Walk}
use Rattle.walk.specs.Walk.{Choice, choice}

-- what a look selects that settles on a block, or on none
abbrev pub choice_from : Walk → Option ℕ → Choice
choice_from w (Some k) = choice true k
choice_from w None = choice w.settled w.default_number
