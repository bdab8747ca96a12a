-- Whether bytes are text.
use Rattle.std.specs.Prelude.{ℕ, Bool, ◌||◌, List, eqb}
use Rattle.std.specs.List.{list_all}
use Rattle.text.specs.Numbers.{is_among}

-- '\n', '\r' and '\t', and from the blank to '~'
unfoldable pub is_printable : ℕ → Bool
is_printable c = eqb c 10 || eqb c 13 || eqb c 9 || is_among 32 126 c

abbrev pub is_text : List ℕ → Bool
is_text = list_all is_printable
