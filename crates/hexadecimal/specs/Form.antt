-- The forms of a text: how its lines begin, and what its rows are made of.
--
--     Plain       bytes alone, with any blanks between them: `xxd -p`
--     Ethtool     an offset between 0x and a colon, and bytes: `ethtool -e`
--     Numbered    the number of the row's first word between 0x and a colon, and words: diagnostic programs of old
--     Xxd         an offset with a colon, and bytes in pairs, up to two blanks: `xxd`
--     Bytes       an offset alone, and bytes, up to a '|' or a '>': `hexdump -C`, `od -A x -t x1`
--     Words       an offset alone, and words: `hexdump`
use Rattle.std.specs.Prelude.{Bool, true, false, not, ◌||◌}
use Rattle.hexadecimal.specs.declared.form.TextForm.{TextForm}
use Rattle.hexadecimal.specs.declared.form.TextForm.TheVariants.{Plain, Numbered, Xxd, Bytes, Words}

abbrev pub is_plain_form : TextForm → Bool
is_plain_form Plain = true
is_plain_form _ = false

abbrev pub is_numbered : TextForm → Bool
is_numbered Numbered = true
is_numbered _ = false

abbrev pub is_xxd : TextForm → Bool
is_xxd Xxd = true
is_xxd _ = false

abbrev pub is_bytes_alone : TextForm → Bool
is_bytes_alone Bytes = true
is_bytes_alone _ = false

abbrev pub is_words_alone : TextForm → Bool
is_words_alone Words = true
is_words_alone _ = false

-- whether its rows have words of four digits, low byte last
unfoldable pub is_words : TextForm → Bool
is_words form = is_numbered form || is_words_alone form

-- whether blanks stand before each of a row's bytes or words
unfoldable pub stands_apart : TextForm → Bool
stands_apart form = not (is_plain_form form || is_xxd form)
