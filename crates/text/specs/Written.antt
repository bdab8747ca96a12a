-- A line of text, put together from left to right. What does not fit is left out.
use Rattle.std.specs.Prelude.{ℕ, ◌-◌, Bool, true, false, ◌||◌, List, [], ◌∷◌, ◌++◌, eqb, length, take, drop, get_or, replicate}
use Rattle.rom.specs.Bytes.{pick, one, byte_at, word_at}
use Rattle.text.specs.Numbers.{digit_of, decimal_of, hex_of}
use Rattle.text.specs.Tables.{blank}
use Rattle.text.specs.declared.line.Line.{Line}

-- what a line says
abbrev pub text_of : Line → List ℕ
text_of line = line.bytes.items

abbrev pub line_room : ℕ
line_room = 160

-- as much of a text as a line has room for
unfoldable pub fitted : List ℕ → List ℕ
fitted s = take line_room s

-- ## Columns

-- a text with blanks up to a column
unfoldable pub blanks_to : ℕ → List ℕ → List ℕ
blanks_to column s = s ++ replicate (column - length s) blank

-- a text and another that ends at a column
abbrev pub ending_at : ℕ → List ℕ → List ℕ → List ℕ
ending_at column t s = blanks_to (column - length t) s ++ t

-- ## Patterns

-- '#', '%' and '@'
unfoldable pub is_mark : ℕ → Bool
is_mark c = eqb c 35 || eqb c 37 || eqb c 64

-- a value as a mark has it: '#' in decimal, '%' as two hexadecimal digits, '@' as 0x and four
unfoldable pub spelled_as : ℕ → ℕ → List ℕ
spelled_as mark n = pick (eqb mark 35) (decimal_of n) (pick (eqb mark 37) (hex_of 2 n) (48 ∷ 120 ∷ hex_of 4 n))

-- a byte of a pattern: a mark says its value, and any other byte itself
unfoldable pub piece_of : ℕ → ℕ → List ℕ
piece_of c n = pick (is_mark c) (spelled_as c n) (c ∷ [])

-- a pattern whose marks take the values in turn, and 0 once there is none left
unfoldable pub with_values : List ℕ → List ℕ → List ℕ
with_values values [] = []
with_values values (c ∷ cs) = piece_of c (get_or values 0 0) ++ with_values (drop (one (is_mark c)) values) cs

-- the value of a mark that names a byte: a word for '@', else the byte
unfoldable pub value_in : List ℕ → ℕ → ℕ → ℕ
value_in bytes mark at = pick (eqb mark 64) (word_at bytes at) (byte_at bytes at)

-- the same from a byte on that is the place of the mark before it, or not
unfoldable pub fields_from : Bool → List ℕ → List ℕ → List ℕ
fields_from is_place bytes [] = []
fields_from true bytes (c ∷ cs) = fields_from false bytes cs
fields_from false bytes (c ∷ cs) = piece_of c (value_in bytes c (digit_of (byte_at cs 0))) ++ fields_from (is_mark c) bytes cs

-- a pattern over bytes: behind each mark stands the place of its value, a hexadecimal digit
abbrev pub with_fields : List ℕ → List ℕ → List ℕ
with_fields bytes pattern = fields_from false bytes pattern
