-- The table of commands has a line for each, and the number there is the command's. Assumes nothing.
use Prim.Native.Nat.{ℕ}
use mathlib.Core.Path.{◌≡◌, refl, sym, ap, ◌∙◌}
use mathlib.Core.List.{List, [], ◌∷◌}
use Rattle.std.specs.Prelude.{Option, Some, None}
use Rattle.std.specs.Option.{option_map}
use Rattle.rom.specs.Bytes.{pick, is_in}
use Rattle.text.specs.Lines.{lines_of}
use Rattle.text.specs.Numbers.{digit_of, read_on, decimal_number, places_from, numeral}
use Rattle.console.specs.declared.command.Command.{Command}
use Rattle.console.specs.declared.command.Command.TheVariants.{
  Read,
  Older,
  Walk,
  Sheet,
  Map,
  Write,
  Magic,
  Widen,
  Narrow,
  Refusals,
  Help,
}
use Rattle.console.specs.Commands.{command_name, command_as_number, named_as_number, command_table, pick_command, command_of}
use Rattle.console.proofs.Named.{Reads, lines_for, first_named, number_of_found, number_of_first}

abbrev pub listed_commands : List Command
listed_commands = Read ∷ Older ∷ Walk ∷ Sheet ∷ Map ∷ Write ∷ Magic ∷ Widen ∷ Narrow ∷ Refusals ∷ Help ∷ []

commands_read : (c : Command) → Reads command_name command_as_number c
unfolding is_in numeral places_from pick decimal_number read_on digit_of
commands_read Read = (refl, refl, refl)
commands_read Older = (refl, refl, refl)
commands_read Walk = (refl, refl, refl)
commands_read Sheet = (refl, refl, refl)
commands_read Map = (refl, refl, refl)
commands_read Write = (refl, refl, refl)
commands_read Magic = (refl, refl, refl)
commands_read Widen = (refl, refl, refl)
commands_read Narrow = (refl, refl, refl)
commands_read Refusals = (refl, refl, refl)
commands_read Help = (refl, refl, refl)

command_lines : lines_of command_table ≡ lines_for command_name command_as_number listed_commands
unfolding lines_of pick command_table numeral places_from
command_lines = refl

command_picked : (found : Option Command) → pick_command (number_of_found command_name command_as_number found) ≡ named_as_number found
unfolding pick
command_picked None = refl
command_picked (Some Read) = refl
command_picked (Some Older) = refl
command_picked (Some Walk) = refl
command_picked (Some Sheet) = refl
command_picked (Some Map) = refl
command_picked (Some Write) = refl
command_picked (Some Magic) = refl
command_picked (Some Widen) = refl
command_picked (Some Narrow) = refl
command_picked (Some Refusals) = refl
command_picked (Some Help) = refl

by_first : (word : List ℕ) → named_as_number (first_named command_name command_as_number word listed_commands) ≡ command_of word
unfolding command_of
by_first word =
    sym (command_picked (first_named command_name command_as_number word listed_commands))
    ∙ ap pick_command (sym (number_of_first command_name command_as_number commands_read word listed_commands))
    ∙ rw (sym command_lines) refl

pub command_found : (word : List ℕ) (found : Option Command)
    → option_map (λ c. c) found ≡ first_named command_name command_as_number word listed_commands
    → named_as_number found ≡ command_of word
command_found word None e = ap named_as_number e ∙ by_first word
command_found word (Some c) e = ap named_as_number e ∙ by_first word
