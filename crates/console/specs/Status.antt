-- What the program ends with.
use Rattle.std.specs.Prelude.{ℕ, Bool}
use Rattle.rom.specs.Bytes.{pick}
use Rattle.console.specs.declared.status.Status.{Status}
use Rattle.console.specs.declared.status.Status.TheVariants.{Accepted, Refused, Usage}

-- 0 for an image or a sheet that is accepted, 1 for one that is refused
unfoldable pub status_of : Bool → ℕ
status_of accepted = pick accepted 0 1

-- the digit that the launcher reads
abbrev pub status_as_number : Status → ℕ
status_as_number Accepted = 0
status_as_number Refused = 1
status_as_number Usage = 2
