-- The digits of a row, gathered to bytes or words, character by character.
use Rattle.std.specs.Prelude.{ℕ, ◌+◌, ◌*◌, ◌%◌, Bool, true, false, not, ◌&&◌, ◌||◌, ◌==◌, nat_lt}
use Rattle.rom.specs.Bytes.{pick}
use Rattle.text.specs.Numbers.{digit_of}
use Rattle.hexadecimal.specs.Form.{is_xxd, is_bytes_alone, is_words, stands_apart}
use Rattle.hexadecimal.specs.Offset.{is_blank}
use Rattle.hexadecimal.specs.declared.form.TextForm.{TextForm}
use Rattle.hexadecimal.specs.declared.group.Group.{Group}
use Rattle.hexadecimal.specs.declared.group.Standing.{Standing}
use Rattle.hexadecimal.specs.declared.group.Standing.TheVariants.{Open, Whole, Ended, Wrong}

-- ## Where a row stands behind a character: in a byte or word or between two (Open), at the last digit of one (Whole), behind
-- the row's end, where what follows is not read (Ended), or at what belongs to no byte or word (Wrong)

-- whether the rest of a row is not read
abbrev pub has_stopped : Standing → Bool
has_stopped Open = false
has_stopped Whole = false
has_stopped Ended = true
has_stopped Wrong = true

unfoldable pub no_group : Group
no_group = record { value = 0; digits = 0; blank = false; standing = Open }

unfoldable pub stopped : Standing → Group → Group
stopped standing g = record { value = g.value; digits = g.digits; blank = g.blank; standing = standing }

-- ## The next character

-- two blanks end a row of xxd; in a byte or word none may stand
unfoldable pub at_blank : TextForm → Group → Group
at_blank form g =
    pick (g.digits == 0)
    (pick (g.blank && is_xxd form) (stopped Ended g) (record { value = g.value; digits = 0; blank = true; standing = Open }))
    (stopped Wrong g)

-- whether the characters begin that hexdump -C and od show behind a row: '|' (124) and '>' (62)
unfoldable pub ends_row : TextForm → ℕ → Group → Bool
ends_row form c g = is_bytes_alone form && g.digits == 0 && (c == 124 || c == 62)

unfoldable pub digits_wanted : TextForm → ℕ
digits_wanted form = pick (is_words form) 4 2

-- whether a first digit stands where a blank belongs
unfoldable pub is_joined : TextForm → Group → Bool
is_joined form g = stands_apart form && g.digits == 0 && not g.blank

-- the last four digits
abbrev pub with_last : ℕ → ℕ → ℕ
with_last value digit = 16 * (value % 4096) + digit % 16

-- one digit more
unfoldable pub with_digit : TextForm → ℕ → Group → Group
with_digit form digit g =
    pick (g.digits % 4 + 1 == digits_wanted form)
    (record { value = with_last g.value digit; digits = 0; blank = false; standing = Whole })
    (record { value = with_last g.value digit; digits = g.digits % 4 + 1; blank = false; standing = Open })

-- a character that is no blank and does not end the row
unfoldable pub at_digit : TextForm → ℕ → Group → Group
at_digit form c g = pick (nat_lt 15 (digit_of c) || is_joined form g) (stopped Wrong g) (with_digit form (digit_of c) g)

unfoldable pub next_group : TextForm → ℕ → Group → Group
next_group form c g =
    pick (has_stopped g.standing) g
    (pick (is_blank c) (at_blank form g) (pick (ends_row form c g) (stopped Ended g) (at_digit form c g)))
