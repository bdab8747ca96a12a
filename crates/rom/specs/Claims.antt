-- What is claimed of refusals, for every list of causes (demand 1).
use Rattle.std.specs.Prelude.{ℕ, ◌≡◌, List}
use Rattle.rom.specs.Refusal.{Cause, first_met, Numbered, Exact}

-- one number alone answers exactly, and the first cause that is met has it
abbrev pub FirstIsExact : Type 0
FirstIsExact = (cs : List Cause) → Numbered cs → Exact cs (first_met cs) × ((n : ℕ) → Exact cs n → n ≡ first_met cs)
