-- What is claimed of texts.
use Rattle.std.specs.Prelude.{◌≡◌, map}
use Rattle.hexadecimal.specs.Cases.{text_cases, found_again}

-- the cases are found as they are written down
abbrev pub TextsWorked : Type 0
TextsWorked = map found_again text_cases ≡ text_cases
