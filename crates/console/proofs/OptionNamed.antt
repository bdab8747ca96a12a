-- The table of options has a line for each, and the number there is the option's. Assumes nothing.
use Prim.Native.Nat.{ℕ}
use mathlib.Core.Path.{◌≡◌, refl, sym, ap, ◌∙◌}
use mathlib.Core.Bool.{Bool}
use mathlib.Core.List.{List, [], ◌∷◌}
use lib.ListN.{take}
use Rattle.std.specs.Prelude.{Option, Some, None}
use Rattle.std.specs.Option.{option_map}
use Rattle.std.specs.Str.{bytes_eq}
use Rattle.rom.specs.Bytes.{pick, is_in}
use Rattle.text.specs.Lines.{lines_of}
use Rattle.text.specs.Quoted.{quoted}
use Rattle.text.specs.Numbers.{no_number, digit_of, read_on, decimal_number, places_from, numeral}
use Rattle.console.specs.declared.option.CommandOption.{CommandOption}
use Rattle.console.specs.declared.option.CommandOption.TheVariants.{
  Controller,
  Level,
  Size,
  Edition,
  Password,
  Address,
  Command,
  Magic,
  Force,
  Wide,
}
use Rattle.console.specs.Options.{
  no_option,
  plain_word,
  option_name,
  option_as_number,
  found_as_number,
  option_table,
  option_number,
  pick_option,
  option_of,
}
use Rattle.console.proofs.Equal.{same_from_right}
use Rattle.console.proofs.Named.{Reads, lines_for, first_named, number_of_found, number_of_first}

abbrev pub listed_options : List CommandOption
listed_options =
    Controller ∷ Level ∷ Size ∷ Edition ∷ Password ∷ Address ∷ Command ∷ Magic ∷ Force ∷ Wide ∷ []

options_read : (o : CommandOption) → Reads option_name option_as_number o
unfolding is_in numeral places_from pick decimal_number read_on digit_of
options_read Controller = (refl, refl, refl)
options_read Level = (refl, refl, refl)
options_read Size = (refl, refl, refl)
options_read Edition = (refl, refl, refl)
options_read Password = (refl, refl, refl)
options_read Address = (refl, refl, refl)
options_read Command = (refl, refl, refl)
options_read Magic = (refl, refl, refl)
options_read Force = (refl, refl, refl)
options_read Wide = (refl, refl, refl)

option_lines : lines_of option_table ≡ lines_for option_name option_as_number listed_options
unfolding lines_of pick option_table numeral places_from
option_lines = refl

pub option_found : (word : List ℕ) (found : Option CommandOption)
    → option_map (λ o. o) found ≡ first_named option_name option_as_number word listed_options
    → found_as_number found ≡ option_number word
option_found word found e =
    as_found found
    ∙ ap (number_of_found option_name option_as_number) (unmapped found ∙ e)
    ∙ sym (number_of_first option_name option_as_number options_read word listed_options)
    ∙ rw (sym option_lines) refl
  where
    as_found : (f : Option CommandOption) → found_as_number f ≡ number_of_found option_name option_as_number f
    as_found None = refl
    as_found (Some o) = refl

    unmapped : (f : Option CommandOption) → f ≡ option_map (λ o. o) f
    unmapped None = refl
    unmapped (Some o) = refl

-- what is found picks the role, whatever the word
pub option_picked : (word : List ℕ) (o : CommandOption) → pick_option word (option_as_number o) ≡ option_as_number o
unfolding pick
option_picked word Controller = refl
option_picked word Level = refl
option_picked word Size = refl
option_picked word Edition = refl
option_picked word Password = refl
option_picked word Address = refl
option_picked word Command = refl
option_picked word Magic = refl
option_picked word Force = refl
option_picked word Wide = refl

-- where none is found, the dashes do
pub by_dashes : (word : List ℕ) {t : Bool} → no_number ≡ option_number word → t ≡ bytes_eq (quoted "--") (take 2 word)
    → pick t no_option plain_word ≡ option_of word
unfolding option_of pick
by_dashes word {t} none et =
    ap (λ b. pick b no_option plain_word) (et ∙ same_from_right (take 2 word) (quoted "--")) ∙ ap (pick_option word) none
