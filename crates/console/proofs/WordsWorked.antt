-- The checker computes each case. Assumes nothing.
use mathlib.Core.Path.{refl}
use Rattle.rom.specs.Bytes.{pick}
use Rattle.text.specs.Slices.{same_bytes}
use Rattle.text.specs.Lines.{lines_of}
use Rattle.text.specs.Numbers.{digit_of, read_on, decimal_number}
use Rattle.text.specs.Tables.{has_key, words_in}
use Rattle.hexadecimal.specs.Offset.{is_of, run_of, is_marked, behind_mark, value_from}
use Rattle.console.specs.Options.{option_table, option_of}
use Rattle.console.specs.Commands.{
  command_table,
  command_of,
  fewest_of,
  most_of,
  takes_arguments,
  takes_force,
  takes_chip,
  takes_size,
  takes_wide,
  takes_option,
}
use Rattle.console.specs.Roles.{takes_value, role_of}
use Rattle.console.specs.Value.{
  is_in_place,
  are_in_place,
  is_six_bytes,
  byte_named,
  six_bytes,
  spells_word,
  command_word,
  names_first,
  names_edition,
}
use Rattle.console.specs.Cases.{
  taken_of,
  command_again,
  command_cases,
  role_again,
  role_cases,
  value_again,
  value_cases,
  edition_name_again,
  edition_name_cases,
}
use Rattle.console.specs.Claims.{WordsWorked}

pub words-worked : WordsWorked
unfolding pick same_bytes lines_of digit_of read_on decimal_number has_key words_in is_of run_of is_marked behind_mark value_from
    option_table
    option_of command_table command_of fewest_of most_of takes_arguments takes_force takes_chip takes_size takes_wide takes_option
    takes_value
    role_of is_in_place are_in_place is_six_bytes byte_named six_bytes spells_word command_word names_first names_edition taken_of
    command_again
    command_cases role_again role_cases value_again value_cases edition_name_again edition_name_cases
words-worked = (refl, refl, refl, refl)
