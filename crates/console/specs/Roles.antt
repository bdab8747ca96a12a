-- What a word behind the command is: an option, an option's value, or a plain word.
use Rattle.std.specs.Prelude.{ℕ, Bool, ◌&&◌, ◌||◌, List, eqb}
use Rattle.rom.specs.Bytes.{pick}
use Rattle.text.specs.Numbers.{is_among}
use Rattle.console.specs.Options.{controller_option, command_option, magic_option, option_value, option_of}
use Rattle.console.specs.Commands.{write_command}

-- all but --force, --wide and --magic take a value, and in `write` --magic does
unfoldable pub takes_value : ℕ → ℕ → Bool
takes_value command option = is_among controller_option command_option option || (eqb option magic_option && eqb command write_command)

-- behind an option that takes a value stands that value, whatever the word is
unfoldable pub role_of : List ℕ → ℕ → ℕ → ℕ
role_of word before command = pick (takes_value command before) option_value (option_of word)
