-- Hexadecimal text as programs print it, back to its bytes.
--
--     ethtool -e                    0x0010:     34 20 04 01 ..            an offset between 0x and a colon, and bytes
--     diagnostic programs of old    0x08:  2034 0104 ..                   the number of the row's first word, and words
--     xxd                           00000010: 3420 0401 ..  4 ..          an offset with a colon, and bytes in pairs
--     hexdump -C, od -A x -t x1     00000010  34 20 04 01 ..  |4 ..|      an offset alone, and bytes
--     hexdump                       0000010 2034 0104 ..                  an offset alone, and words
--     xxd -p                        34200401..                            bytes alone, with any blanks between them
--
-- A word has four digits, low byte last. A line of '*' stands for lines like the one before, up to the next offset. Blanks
-- before a line, and empty lines, say nothing. The first line that has a form gives the text its form. Before it may stand
-- headings, but not before bytes alone. What follows the rows of numbered words is not read.
use Rattle.std.specs.Prelude.{ℕ, ◌+◌, ◌%◌, ◌^◌, Bool, true, false, not, ◌&&◌, ◌||◌, List, [], ◌∷◌, length, ◌==◌, Option, Some, None}
use Rattle.std.specs.Option.{is_none}
use Rattle.rom.specs.Bytes.{pick, byte_at}
use Rattle.text.specs.Lines.{lines_of}
use Rattle.hexadecimal.specs.Form.{is_numbered}
use Rattle.hexadecimal.specs.Offset.{without_blanks, row_part, offset_of, beginning_of, beginning_for, begins, form_of, is_plain}
use Rattle.hexadecimal.specs.Group.{no_group, next_group}
use Rattle.hexadecimal.specs.Held.{nothing_held, faulted, with_group, closed, repeated_to}
use Rattle.hexadecimal.specs.declared.form.TextForm.{TextForm}
use Rattle.hexadecimal.specs.declared.form.TextForm.TheVariants.{Plain}
use Rattle.hexadecimal.specs.declared.offset.Beginning.TheVariants.{Marked}
use Rattle.hexadecimal.specs.declared.group.Group.{Group}
use Rattle.hexadecimal.specs.declared.held.Held.{Held}
use Rattle.hexadecimal.specs.declared.held.Problem.TheVariants.{NoOffset, WrongOffset, NoBytes}
use Rattle.hexadecimal.specs.declared.mode.Mode.{Mode}
use Rattle.hexadecimal.specs.declared.mode.Stage.{Stage}
use Rattle.hexadecimal.specs.declared.mode.Stage.TheVariants.{Headings, Rows, Ended}
use Rattle.hexadecimal.specs.declared.DecodedText.{DecodedText}

-- ## How the lines read. A line comes without the blanks before it.

unfoldable pub unread_mode : Mode
unread_mode = record { stage = Headings; headed = false; repeats = false }

-- by the first line that has a form
abbrev pub mode_by : Option TextForm → Mode → List ℕ → Mode
mode_by (Some form) m line = record { stage = Rows form; headed = m.headed; repeats = false }
mode_by None m line =
    pick (is_plain line && not m.headed) (record { stage = Rows Plain; headed = false; repeats = false })
    (record { stage = Headings; headed = true; repeats = false })

unfoldable pub first_mode : Mode → List ℕ → Mode
first_mode m line = mode_by (form_of line) m line

-- whether a line stands behind rows of numbered words
unfoldable pub ends_rows : TextForm → List ℕ → Bool
ends_rows form line = is_numbered form && not (begins (beginning_of line) Marked)

-- a '*' (42) is one where offsets are
abbrev pub mode_behind : Stage → Mode → List ℕ → Mode
mode_behind Headings m line = first_mode m line
mode_behind (Rows Plain) m line = m
mode_behind (Rows form) m line =
    pick (ends_rows form line) (record { stage = Ended; headed = m.headed; repeats = false })
    (record { stage = Rows form; headed = m.headed; repeats = (byte_at line 0 == 42) })
mode_behind Ended m line = m

-- an empty line says nothing
unfoldable pub mode_after : Mode → List ℕ → Mode
mode_after m line = pick (length line == 0) m (mode_behind m.stage m line)

-- ## What a line adds to the bytes

-- the bytes of a row, character by character
unfoldable pub row_from : TextForm → Group → List ℕ → Held → Held
row_from form g [] h = closed g h
row_from form g (c ∷ cs) h = row_from form (next_group form c g) cs (with_group form (next_group form c g) h)

unfoldable pub row_read : TextForm → List ℕ → Held → Held
row_read form row h = row_from form no_group row h

-- the row of a line whose offset must be the next byte's
unfoldable pub placed_row : TextForm → List ℕ → Held → Held
placed_row form line h =
    pick (is_none h.problem)
    (pick (length h.bytes.items == offset_of form line) (row_read form (row_part line) h) (faulted WrongOffset h)) h

-- a line with an offset, behind a '*' or not
unfoldable pub with_offset : TextForm → Bool → List ℕ → Held → Held
with_offset form repeats line h =
    pick (begins (beginning_of line) (beginning_for form))
    (placed_row form line (pick repeats (repeated_to (offset_of form line) h) h))
    (faulted NoOffset h)

-- a line that a text's lines are so far
abbrev pub with_line_of : Stage → Bool → List ℕ → Held → Held
with_line_of Headings repeats line h = h
with_line_of (Rows Plain) repeats line h = row_read Plain line h
with_line_of (Rows form) repeats line h = with_offset form repeats line h
with_line_of Ended repeats line h = h

-- a line, by how the text read before it and how it reads behind it
unfoldable pub with_line : Mode → Mode → List ℕ → Held → Held
with_line before after line h = pick (length line == 0 || after.repeats) h (with_line_of after.stage before.repeats line h)

-- ## The text

unfoldable pub unread : DecodedText
unread = record { held = nothing_held; mode = unread_mode; line = 0 }

-- one line more, with the blanks before it
unfoldable pub line_read : List ℕ → DecodedText → DecodedText
line_read line r = record {
  held = with_line r.mode (mode_after r.mode (without_blanks line)) (without_blanks line) r.held;
  mode = mode_after r.mode (without_blanks line);
  line = (r.line + 1) % 2 ^ 32;
}

-- the lines one after another, up to one with which something is wrong
unfoldable pub lines_read : List (List ℕ) → DecodedText → DecodedText
lines_read [] r = r
lines_read (line ∷ lines) r = pick (is_none (line_read line r).held.problem) (lines_read lines (line_read line r)) (line_read line r)

-- a text has a byte at least
unfoldable pub finished : DecodedText → DecodedText
finished r =
    pick (is_none r.held.problem && length r.held.bytes.items == 0)
    (record { held = faulted NoBytes r.held; mode = r.mode; line = r.line }) r

unfoldable pub decoded : List ℕ → DecodedText
decoded source = finished (lines_read (lines_of source) unread)
