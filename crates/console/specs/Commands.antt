-- The commands, and the words that each takes.
use Rattle.std.specs.Prelude.{ℕ, Bool, ◌||◌, List, Option, Some, None, eqb, leb, ltb}
use Rattle.rom.specs.Bytes.{pick}
use Rattle.text.specs.Quoted.{quoted}
use Rattle.text.specs.Numbers.{is_among, decimal_number}
use Rattle.text.specs.Tables.{words_for}
use Rattle.console.specs.Options.{size_option, edition_option, magic_option, force_option, wide_option}
use Rattle.console.specs.declared.command.Command.{Command}
use Rattle.console.specs.declared.command.Command.TheVariants.{
  Read,
  Older,
  Walk,
  Sheet,
  Map,
  Write,
  Magic,
  Widen,
  Narrow,
  Refusals,
  Help,
}

abbrev pub read_command : ℕ
read_command = 1

abbrev pub older_command : ℕ
older_command = 2

abbrev pub walk_command : ℕ
walk_command = 3

abbrev pub sheet_command : ℕ
sheet_command = 4

abbrev pub map_command : ℕ
map_command = 5

abbrev pub write_command : ℕ
write_command = 6

abbrev pub magic_command : ℕ
magic_command = 7

abbrev pub narrow_command : ℕ
narrow_command = 9

abbrev pub help_command : ℕ
help_command = 11

-- the code's commands by their names, and by these numbers
abbrev pub command_name : Command → List ℕ
command_name Read = quoted "read"
command_name Older = quoted "older"
command_name Walk = quoted "walk"
command_name Sheet = quoted "sheet"
command_name Map = quoted "map"
command_name Write = quoted "write"
command_name Magic = quoted "magic"
command_name Widen = quoted "widen"
command_name Narrow = quoted "narrow"
command_name Refusals = quoted "refusals"
command_name Help = quoted "help"

abbrev pub command_as_number : Command → ℕ
command_as_number Read = read_command
command_as_number Older = older_command
command_as_number Walk = walk_command
command_as_number Sheet = sheet_command
command_as_number Map = map_command
command_as_number Write = write_command
command_as_number Magic = magic_command
command_as_number Widen = 8
command_as_number Narrow = narrow_command
command_as_number Refusals = 10
command_as_number Help = help_command

-- 0 for none
abbrev pub named_as_number : Option Command → ℕ
named_as_number None = 0
named_as_number (Some command) = command_as_number command

unfoldable pub command_table : List ℕ
command_table = quoted "read 1\nolder 2\nwalk 3\nsheet 4\nmap 5\nwrite 6\nmagic 7\nwiden 8\nnarrow 9\nrefusals 10\nhelp 11\n"

-- the command that a word names, or 0
abbrev pub pick_command : ℕ → ℕ
pick_command n = pick (ltb help_command n) 0 n

unfoldable pub command_of : List ℕ → ℕ
command_of word = pick_command (decimal_number (words_for command_table word))

-- ## The plain words behind a command

-- the commands up to `map` read a card, for a chip
unfoldable pub takes_chip : ℕ → Bool
takes_chip command = leb command map_command

-- `help` and `refusals` take none; `read` and `older`, and those from `write` to `narrow` two; those that take a chip, and a report
-- or a file to write, three
unfoldable pub fewest_of : ℕ → ℕ
fewest_of command =
    pick (ltb narrow_command command) 0
    (pick (leb write_command command) 2
    (pick (leb command older_command) 2 3))

-- 4 is more than are counted, and so no bound: `walk` takes as many reports as there are
unfoldable pub most_of : ℕ → ℕ
most_of command = pick (eqb command walk_command) 4 (fewest_of command)

-- ## Its options

-- those that read a card take a controller and a level
unfoldable pub takes_arguments : ℕ → Bool
takes_arguments command = eqb command read_command || eqb command older_command || eqb command walk_command || eqb command map_command

-- those from `sheet` to `narrow` write a file
unfoldable pub takes_force : ℕ → Bool
takes_force command = is_among sheet_command narrow_command command

-- those that read a card, and `write`, take a layout and an edition
abbrev pub takes_layout : ℕ → Bool
takes_layout command = leb command write_command

-- `magic` takes the fields of a Magic Packet block
abbrev pub takes_fields : ℕ → Bool
takes_fields command = eqb command magic_command

-- those that read a card or write one take the size of its ROM
unfoldable pub takes_size : ℕ → Bool
takes_size command = leb command magic_command

-- `sheet` and `write` take a sheet of either form
unfoldable pub takes_wide : ℕ → Bool
takes_wide command = eqb command sheet_command || eqb command write_command

unfoldable pub takes_option : ℕ → ℕ → Bool
takes_option command option =
    pick (eqb option force_option) (takes_force command)
    (pick (eqb option magic_option) (takes_layout command)
    (pick (eqb option size_option) (takes_size command)
    (pick (eqb option edition_option) (takes_layout command)
    (pick (eqb option wide_option) (takes_wide command)
    (pick (ltb edition_option option) (takes_fields command) (takes_arguments command))))))
