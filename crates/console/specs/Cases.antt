-- The commands, and words with what they say.
use Rattle.std.specs.Prelude.{ℕ, Bool, true, false, List, [], ◌∷◌}
use Prim.Native.String.{String}
use Rattle.rom.specs.Bytes.{pick}
use Rattle.text.specs.Quoted.{quoted}
use Rattle.console.specs.Options.{
  plain_word,
  controller_option,
  level_option,
  size_option,
  edition_option,
  password_option,
  address_option,
  command_option,
  magic_option,
  force_option,
  wide_option,
  no_option,
  option_value,
}
use Rattle.console.specs.Commands.{
  read_command,
  walk_command,
  write_command,
  magic_command,
  command_of,
  fewest_of,
  most_of,
  takes_option,
}
use Rattle.console.specs.Roles.{role_of}
use Rattle.console.specs.Value.{is_six_bytes, six_bytes, command_word, names_first, names_edition}

-- ## Commands

-- a command, the fewest and the most plain words behind it, and the options that it takes
pub record CommandCase : Type 0 where
  pub name : String
  pub fewest : ℕ
  pub most : ℕ
  pub options : List ℕ

-- those of some options that a command takes
unfoldable pub taken_of : ℕ → List ℕ → List ℕ
taken_of command [] = []
taken_of command (o ∷ os) = pick (takes_option command o) (o ∷ taken_of command os) (taken_of command os)

abbrev all_options : List ℕ
all_options =
    controller_option
    ∷ level_option
    ∷ size_option
    ∷ edition_option
    ∷ password_option
    ∷ address_option
    ∷ command_option
    ∷ magic_option
    ∷ force_option
    ∷ wide_option
    ∷ []

abbrev with_command : String → ℕ → CommandCase
with_command name command = record {
  name = name;
  fewest = fewest_of command;
  most = most_of command;
  options = taken_of command all_options;
}

unfoldable pub command_again : CommandCase → CommandCase
command_again x = with_command x.name (command_of (quoted x.name))

abbrev taking : String → ℕ → ℕ → List ℕ → CommandCase
taking name fewest most options = record { name = name; fewest = fewest; most = most; options = options }

-- 4 is no bound
unfoldable pub command_cases : List CommandCase
command_cases =
    taking "read" 2 2 (controller_option ∷ level_option ∷ size_option ∷ edition_option ∷ magic_option ∷ [])
    ∷ taking "older" 2 2 (controller_option ∷ level_option ∷ size_option ∷ edition_option ∷ magic_option ∷ [])
    ∷ taking "walk" 3 4 (controller_option ∷ level_option ∷ size_option ∷ edition_option ∷ magic_option ∷ [])
    ∷ taking "sheet" 3 3 (size_option ∷ edition_option ∷ magic_option ∷ force_option ∷ wide_option ∷ [])
    ∷ taking "map" 3 3 (controller_option ∷ level_option ∷ size_option ∷ edition_option ∷ magic_option ∷ force_option ∷ [])
    ∷ taking "write" 2 2 (size_option ∷ edition_option ∷ magic_option ∷ force_option ∷ wide_option ∷ [])
    ∷ taking "magic" 2 2 (size_option ∷ password_option ∷ address_option ∷ command_option ∷ force_option ∷ [])
    ∷ taking "widen" 2 2 (force_option ∷ [])
    ∷ taking "narrow" 2 2 (force_option ∷ [])
    ∷ taking "refusals" 0 0 []
    ∷ taking "help" 0 0 []
    ∷ []

-- ## Roles

-- a word of a command, behind one of a role, and its own role
pub record RoleCase : Type 0 where
  pub command : ℕ
  pub before : ℕ
  pub word : String
  pub role : ℕ

unfoldable pub role_again : RoleCase → RoleCase
role_again x = record {
  command = x.command;
  before = x.before;
  word = x.word;
  role = role_of (quoted x.word) x.before x.command;
}

abbrev behind : ℕ → ℕ → String → ℕ → RoleCase
behind command before word role = record { command = command; before = before; word = word; role = role }

unfoldable pub role_cases : List RoleCase
role_cases =
    behind read_command plain_word "--magic" magic_option
    ∷ behind read_command magic_option "21143" plain_word
    ∷ behind walk_command magic_option "--level" level_option
    ∷ behind write_command plain_word "--magic" magic_option
    ∷ behind write_command magic_option "old.rom" option_value
    ∷ behind write_command option_value "--force" force_option
    ∷ behind magic_command password_option "--address" option_value
    ∷ behind magic_command force_option "--command" command_option
    ∷ behind magic_command option_value "--password" password_option
    ∷ behind read_command plain_word "--size" size_option
    ∷ behind read_command size_option "256" option_value
    ∷ behind read_command plain_word "--edition" edition_option
    ∷ behind read_command edition_option "1.00" option_value
    ∷ behind write_command edition_option "--wide" option_value
    ∷ behind write_command plain_word "--wide" wide_option
    ∷ behind write_command wide_option "card.rom" plain_word
    ∷ behind read_command plain_word "--controllers" no_option
    ∷ behind read_command plain_word "-" plain_word
    ∷ []

-- ## Values

abbrev no_word : ℕ
no_word = 65536

-- a word, the six bytes that it says, and the command's word that it says
pub record ValueCase : Type 0 where
  pub word : String
  pub bytes : List ℕ
  pub number : ℕ

unfoldable pub value_again : ValueCase → ValueCase
value_again x = record {
  word = x.word;
  bytes = pick (is_six_bytes (quoted x.word)) (six_bytes (quoted x.word)) [];
  number = command_word (quoted x.word);
}

abbrev saying_bytes : String → List ℕ → ValueCase
saying_bytes word bytes = record { word = word; bytes = bytes; number = no_word }

abbrev saying_number : String → ℕ → ValueCase
saying_number word number = record { word = word; bytes = []; number = number }

abbrev saying_nothing : String → ValueCase
saying_nothing word = record { word = word; bytes = []; number = no_word }

unfoldable pub value_cases : List ValueCase
value_cases =
    saying_bytes "00:a0:CC:12:34:fE" (0x00 ∷ 0xa0 ∷ 0xcc ∷ 0x12 ∷ 0x34 ∷ 0xfe ∷ [])
    ∷ saying_nothing "00:a0:CC:12:34:f"
    ∷ saying_nothing "00:a0:CC:12:34:fE:"
    ∷ saying_nothing "00:a0:CC:12:34"
    ∷ saying_nothing "00:a0:CC:12:34:fg"
    ∷ saying_nothing "00-a0-CC-12-34-fE"
    ∷ saying_nothing ":00a0:CC:12:34:fE"
    ∷ saying_number "0" 0
    ∷ saying_number "1F" 0x1f
    ∷ saying_number "0x1f" 0x1f
    ∷ saying_number "FFff" 0xffff
    ∷ saying_number "0x0012" 0x12
    ∷ saying_nothing ""
    ∷ saying_nothing "0x"
    ∷ saying_nothing "00012"
    ∷ saying_nothing "0x10000"
    ∷ saying_nothing "0x1g"
    ∷ saying_nothing "1 "
    ∷ []

-- a word, whether it names an edition, and whether that is 1.00
pub record EditionNameCase : Type 0 where
  pub word : String
  pub named : Bool
  pub first : Bool

unfoldable pub edition_name_again : EditionNameCase → EditionNameCase
edition_name_again x = record { word = x.word; named = names_edition (quoted x.word); first = names_first (quoted x.word) }

abbrev naming : String → Bool → Bool → EditionNameCase
naming word named first = record { word = word; named = named; first = first }

unfoldable pub edition_name_cases : List EditionNameCase
edition_name_cases =
    naming "1.00" true true
    ∷ naming "1.01" true false
    ∷ naming "1.0" false false
    ∷ naming "1.02" false false
    ∷ naming "1" false false
    ∷ naming "01.00" false false
    ∷ naming "1.001" false false
    ∷ naming "" false false
    ∷ []
