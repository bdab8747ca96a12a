-- The bytes of a text as far as it has been read.
use Rattle.std.specs.Prelude.{ℕ, zero, suc, ◌+◌, ◌-◌, ◌/◌, ◌%◌, Bool, true, false, not, ◌||◌, [], ◌∷◌, ◌++◌, Option, Some, None}
use Rattle.std.specs.Prelude.{◌==◌, nat_lt, length}
use Rattle.rom.specs.Bytes.{pick, byte_at}
use Rattle.hexadecimal.specs.Form.{is_words}
use Rattle.hexadecimal.specs.declared.form.TextForm.{TextForm}
use Rattle.hexadecimal.specs.declared.group.Group.{Group}
use Rattle.hexadecimal.specs.declared.group.Standing.{Standing}
use Rattle.hexadecimal.specs.declared.group.Standing.TheVariants.{Whole, Wrong}
use Rattle.hexadecimal.specs.declared.held.Problem.{Problem}
use Rattle.hexadecimal.specs.declared.held.Problem.TheVariants.{NoOffset, WrongOffset, NoByte, TooMany, NoBytes}
use Rattle.hexadecimal.specs.declared.held.Held.{Held}

-- ## What is wrong with a line: it begins with no offset of the text's form, its offset is not the next byte's, what stands in
-- its row is no byte or word of the form, or the text has more bytes than there is room for, or none. By their numbers:

abbrev pub problem_number : Option Problem → ℕ
problem_number None = 0
problem_number (Some NoOffset) = 1
problem_number (Some WrongOffset) = 2
problem_number (Some NoByte) = 3
problem_number (Some TooMany) = 4
problem_number (Some NoBytes) = 5

-- ## The bytes

abbrev pub text_room : ℕ
text_room = 2048

unfoldable pub nothing_held : Held
nothing_held = record { bytes = record { items = [] }; problem = None }

unfoldable pub faulted : Problem → Held → Held
faulted problem h = record { bytes = h.bytes; problem = Some problem }

-- one byte more
unfoldable pub pushed : ℕ → Held → Held
pushed byte h =
    pick (nat_lt (length h.bytes.items) text_room)
    (record { bytes = record { items = h.bytes.items ++ byte ∷ [] }; problem = h.problem })
    (faulted TooMany h)

-- a byte, or a word, low byte first
unfoldable pub with_value : TextForm → ℕ → Held → Held
with_value form value h = pick (is_words form) (pushed (value / 256) (pushed (value % 256) h)) (pushed (value % 256) h)

-- whether a row has come to the end of a byte or word
abbrev pub is_whole_standing : Standing → Bool
is_whole_standing Whole = true
is_whole_standing _ = false

-- whether it has come to what is none
abbrev pub is_wrong_standing : Standing → Bool
is_wrong_standing Wrong = true
is_wrong_standing _ = false

-- the byte or word that a row has come to the end of, if it has
unfoldable pub with_group : TextForm → Group → Held → Held
with_group form g h = pick (is_whole_standing g.standing) (with_value form g.value h) h

-- at the end of a row no digit is left over
unfoldable pub closed : Group → Held → Held
closed g h = pick (is_wrong_standing g.standing || not (g.digits == 0)) (faulted NoByte h) h

-- ## Rows that a '*' stands for

-- so many bytes more, each like the one at a place and on
unfoldable pub repeated_from : ℕ → ℕ → Held → Held
repeated_from at zero h = h
repeated_from at (suc n) h = repeated_from (at + 1) n (pushed (byte_at h.bytes.items at) h)

-- the row of 16 bytes before, again and again, up to an offset
unfoldable pub repeated_to : ℕ → Held → Held
repeated_to offset h =
    pick (nat_lt text_room offset) (faulted TooMany h)
    (pick (nat_lt (length h.bytes.items) 16) (faulted WrongOffset h)
    (repeated_from (length h.bytes.items - 16) (offset - length h.bytes.items) h))
