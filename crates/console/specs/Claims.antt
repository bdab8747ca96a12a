-- What is claimed of the words that the program is started with.
use Rattle.std.specs.Prelude.{◌≡◌, map}
use Rattle.console.specs.Cases.{
  command_cases,
  command_again,
  role_cases,
  role_again,
  value_cases,
  value_again,
  edition_name_cases,
  edition_name_again,
}

-- the cases are found as they are written down
abbrev pub WordsWorked : Type 0
WordsWorked =
    (map command_again command_cases ≡ command_cases)
    × (map role_again role_cases ≡ role_cases)
    × (map value_again value_cases ≡ value_cases)
    × (map edition_name_again edition_name_cases ≡ edition_name_cases)
