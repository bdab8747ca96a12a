-- The options, and whether a word is one.
use Rattle.std.specs.Prelude.{ℕ, List, Option, Some, None, ltb, take}
use Rattle.rom.specs.Bytes.{pick}
use Rattle.text.specs.Quoted.{quoted}
use Rattle.text.specs.Numbers.{no_number, decimal_number}
use Rattle.text.specs.Tables.{words_for}
use Rattle.console.specs.Word.{is_word}
use Rattle.console.specs.declared.option.CommandOption.{CommandOption}
use Rattle.console.specs.declared.option.CommandOption.TheVariants.{
  Controller,
  Level,
  Size,
  Edition,
  Password,
  Address,
  Command,
  Magic,
  Force,
  Wide,
}
use Rattle.console.specs.declared.option.Role.{Role}
use Rattle.console.specs.declared.option.Role.TheVariants.{Plain, Named, Value, Unknown}

-- ## The roles of a word

abbrev pub plain_word : ℕ
plain_word = 0

abbrev pub controller_option : ℕ
controller_option = 1

abbrev pub level_option : ℕ
level_option = 2

abbrev pub size_option : ℕ
size_option = 3

abbrev pub edition_option : ℕ
edition_option = 4

abbrev pub password_option : ℕ
password_option = 5

abbrev pub address_option : ℕ
address_option = 6

abbrev pub command_option : ℕ
command_option = 7

abbrev pub magic_option : ℕ
magic_option = 8

abbrev pub force_option : ℕ
force_option = 9

abbrev pub wide_option : ℕ
wide_option = 10

abbrev pub no_option : ℕ
no_option = 11

abbrev pub option_value : ℕ
option_value = 12

-- the code's options by their names, and they and the roles by these numbers
abbrev pub option_name : CommandOption → List ℕ
option_name Controller = quoted "--controller"
option_name Level = quoted "--level"
option_name Size = quoted "--size"
option_name Edition = quoted "--edition"
option_name Password = quoted "--password"
option_name Address = quoted "--address"
option_name Command = quoted "--command"
option_name Magic = quoted "--magic"
option_name Force = quoted "--force"
option_name Wide = quoted "--wide"

abbrev pub option_as_number : CommandOption → ℕ
option_as_number Controller = controller_option
option_as_number Level = level_option
option_as_number Size = size_option
option_as_number Edition = edition_option
option_as_number Password = password_option
option_as_number Address = address_option
option_as_number Command = command_option
option_as_number Magic = magic_option
option_as_number Force = force_option
option_as_number Wide = wide_option

-- more than any number for none
abbrev pub found_as_number : Option CommandOption → ℕ
found_as_number None = no_number
found_as_number (Some option) = option_as_number option

abbrev pub role_as_number : Role → ℕ
role_as_number Plain = plain_word
role_as_number (Named option) = option_as_number option
role_as_number (Value option) = option_value
role_as_number Unknown = no_option

-- ## The option that a word is

unfoldable pub option_table : List ℕ
option_table =
    quoted "--controller 1\n--level 2\n--size 3\n--edition 4\n--password 5\n--address 6\n--command 7\n--magic 8\n--force 9\n--wide 10\n"

-- a number of the table's, or past the last
abbrev pub option_number : List ℕ → ℕ
option_number word = decimal_number (words_for option_table word)

-- a word that begins with two dashes is an option, or begins as one does
abbrev pub pick_option : List ℕ → ℕ → ℕ
pick_option word n = pick (ltb wide_option n) (pick (is_word "--" (take 2 word)) no_option plain_word) n

unfoldable pub option_of : List ℕ → ℕ
option_of word = pick_option word (option_number word)
