-- Where a line's offset stands and what it says. A line begins with no blank here.
use Rattle.std.specs.Prelude.{ℕ, suc, ◌+◌, ◌*◌, ◌%◌, Bool, true, false, not, ◌&&◌, ◌||◌, List, [], ◌∷◌, length, take, drop}
use Rattle.std.specs.Prelude.{Option, Some, None, ◌==◌, nat_lt}
use Rattle.rom.specs.Bytes.{pick, byte_at}
use Rattle.text.specs.Numbers.{digit_of}
use Rattle.hexadecimal.specs.Form.{is_numbered}
use Rattle.hexadecimal.specs.declared.form.TextForm.{TextForm}
use Rattle.hexadecimal.specs.declared.form.TextForm.TheVariants.{Plain, Ethtool, Numbered, Xxd, Bytes, Words}
use Rattle.hexadecimal.specs.declared.offset.Beginning.{Beginning}
use Rattle.hexadecimal.specs.declared.offset.Beginning.TheVariants.{Marked, Colon, Alone}

-- ## Characters

-- a blank, a tab or a carriage return
unfoldable pub is_blank : ℕ → Bool
is_blank c = c == 32 || c == 9 || c == 13

-- of the sort that is asked for: hexadecimal digits, or else blanks
unfoldable pub is_of : Bool → ℕ → Bool
is_of digits c = pick digits (nat_lt (digit_of c) 16) (is_blank c)

-- how many such characters a text begins with
unfoldable pub run_of : Bool → List ℕ → ℕ
run_of digits [] = 0
run_of digits (c ∷ cs) = pick (is_of digits c) (suc (run_of digits cs)) 0

unfoldable pub without_blanks : List ℕ → List ℕ
without_blanks line = drop (run_of false line) line

-- ## The parts of a line: 0x or not, digits, a colon or not, the row

unfoldable pub is_marked : List ℕ → Bool
is_marked line = byte_at line 0 == 48 && byte_at line 1 == 120

unfoldable pub behind_mark : List ℕ → List ℕ
behind_mark line = pick (is_marked line) (drop 2 line) line

unfoldable pub digits_of : List ℕ → List ℕ
digits_of line = take (run_of true (behind_mark line)) (behind_mark line)

unfoldable pub behind_digits : List ℕ → List ℕ
behind_digits line = drop (run_of true (behind_mark line)) (behind_mark line)

unfoldable pub has_colon : List ℕ → Bool
has_colon line = byte_at (behind_digits line) 0 == 58

unfoldable pub row_part : List ℕ → List ℕ
row_part line = pick (has_colon line) (drop 1 (behind_digits line)) (behind_digits line)

-- up to eight digits, and then nothing, a colon or a blank
unfoldable pub is_offset : List ℕ → Bool
is_offset line =
    not (length (digits_of line) == 0) && not (nat_lt 8 (length (digits_of line)))
    && (length (behind_digits line) == 0 || has_colon line || is_blank (byte_at (behind_digits line) 0))

-- the value of hexadecimal digits behind those that give a value already; the last eight count
unfoldable pub value_from : ℕ → List ℕ → ℕ
value_from value [] = value
value_from value (c ∷ cs) = value_from (16 * (value % 0x10000000) + digit_of c) cs

abbrev pub value_of : List ℕ → ℕ
value_of digits = value_from 0 digits

-- in bytes: the number of a word counts twice
unfoldable pub offset_of : TextForm → List ℕ → ℕ
offset_of form line = pick (is_numbered form) (2 * (value_of (digits_of line) % 0x100000000)) (value_of (digits_of line) % 0x100000000)

-- ## The form of a line

-- how a line begins, if with an offset: with one between 0x and a colon, with a colon behind it, or with one alone
unfoldable pub beginning_of : List ℕ → Option Beginning
beginning_of line =
    pick (is_offset line)
    (pick (is_marked line) (pick (has_colon line) (Some Marked) None) (pick (has_colon line) (Some Colon) (Some Alone))) None

-- how the lines of a form begin
unfoldable pub beginning_for : TextForm → Beginning
beginning_for Plain = Alone
beginning_for Ethtool = Marked
beginning_for Numbered = Marked
beginning_for Xxd = Colon
beginning_for Bytes = Alone
beginning_for Words = Alone

-- whether a line begins so
abbrev pub begins : Option Beginning → Beginning → Bool
begins (Some Marked) Marked = true
begins (Some Colon) Colon = true
begins (Some Alone) Alone = true
begins _ _ = false

-- the form of a line by the digits of its first byte or word
unfoldable pub form_by_width : ℕ → TextForm → TextForm → Option TextForm
form_by_width width of_bytes of_words = pick (width == 2) (Some of_bytes) (pick (width == 4) (Some of_words) None)

unfoldable pub width_of : List ℕ → ℕ
width_of line = run_of true (without_blanks (row_part line))

-- the form of a line that begins with an offset; one that stands alone has six digits at least
abbrev pub form_begun : Option Beginning → List ℕ → Option TextForm
form_begun None line = None
form_begun (Some Marked) line = form_by_width (width_of line) Ethtool Numbered
form_begun (Some Colon) line = form_by_width (width_of line) Xxd Xxd
form_begun (Some Alone) line = pick (nat_lt (length (digits_of line)) 6) None (form_by_width (width_of line) Bytes Words)

unfoldable pub form_of : List ℕ → Option TextForm
form_of line = form_begun (beginning_of line) line

-- whether a line begins with digits and nothing else before a blank
unfoldable pub is_plain : List ℕ → Bool
is_plain line =
    not (run_of true line == 0)
    && (length (drop (run_of true line) line) == 0 || is_blank (byte_at (drop (run_of true line) line) 0))
