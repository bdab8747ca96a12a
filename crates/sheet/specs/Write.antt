-- The writer: why it refuses a sheet, and the image after its call (document 01, 'The sheet', 'Why a call is refused').
use Rattle.std.specs.Prelude.{ℕ, ◌+◌, List, [], ◌∷◌, ◌++◌, Bool, false, ◌&&◌, ◌||◌, not, length, eqb, leb, ltb}
use Rattle.rom.specs.declared.Layout.{Layout}
use Rattle.rom.specs.Geometry.{wrong_length, leaves_end}
use Rattle.rom.specs.Bytes.{pick, byte_at, is_in}
use Rattle.rom.specs.Refusal.{Cause, ◌⇒◌, first_met}
use Rattle.format.specs.Chips.{chips, row_of, row21140, kind_compact, kind21041}
use Rattle.format.specs.Block.{is21041, sia_size}
use Rattle.reader.specs.Reading.{judge_causes}
use Rattle.sheet.specs.declared.Form.{Form}
use Rattle.sheet.specs.Form.{is_wide, is_beyond, count_in}
use Rattle.sheet.specs.Record.{Entry, Plain}
use Rattle.sheet.specs.Sheet.{sheet_from, is_sheet}
use Rattle.sheet.specs.Image.{leaf_start, leaf_of, image_of, newest_in}

-- ## What no image of the chip can hold (25)

-- a 21041 has blocks of its own kind only, and no other chip has those
unfoldable pub is_other_family : ℕ → ℕ → Bool
is_other_family row kind = pick (is21041 row) (not (eqb kind kind21041)) (eqb kind kind21041)

-- compact not 4 bytes or top bit set; 21041 body not 1 or 7 as EXT says; extended body over 126
unfoldable pub is_bad_body : ℕ → List ℕ → Bool
is_bad_body kind body =
    pick (eqb kind kind_compact) (not (eqb (length body) 4) || leb 128 (byte_at body 0))
    (pick (eqb kind kind21041) (not (eqb (length body) (sia_size (byte_at body 0))))
    (ltb 126 (length body)))

-- kind over 257 among them
unfoldable pub is_bad : ℕ → Entry → Bool
is_bad row e = ltb kind21041 e.kind || (is_other_family row e.kind || is_bad_body e.kind e.body)

unfoldable pub any_bad : ℕ → List Entry → Bool
any_bad row [] = false
any_bad row (e ∷ es) = is_bad row e || any_bad row es

-- a control byte not 0 on a chip but the 21140
unfoldable pub stray_control : ℕ → ℕ → Bool
stray_control row control = not (eqb row row21140) && not (eqb control 0)

unfoldable pub cannot_hold : Plain → Bool
cannot_hold p = any_bad (row_of p.chip) p.entries || stray_control (row_of p.chip) p.control

-- ## Why a sheet is refused

-- from the record that it means
unfoldable pub record_causes : Layout → Plain → List Cause
record_causes l p =
    (7 ⇒ not (is_in p.chip chips))
    ∷ (25 ⇒ cannot_hold p)
    ∷ (26 ⇒ ltb (leaves_end l) (leaf_start + length (leaf_of p)))
    ∷ []

-- N over 255 in a wide sheet
unfoldable pub too_many_blocks : Form → List ℕ → Bool
too_many_blocks form sheet = is_wide form && ltb 255 (count_in form sheet)

-- an output of another length than the stated size, or a stated size that sheets of the form are not written to
unfoldable pub wrong_output : Form → Layout → ℕ → Bool
wrong_output form l n = is_beyond form l.size || wrong_length l.size n

-- for an edition and an output; last the newest reader's, 12 apart, for controller 0 of the image to be written
unfoldable pub write_causes : Form → Layout → Bool → List ℕ → List ℕ → List Cause
write_causes form l edition sheet out =
    (24 ⇒ not (is_sheet form sheet))
    ∷ (33 ⇒ too_many_blocks form sheet)
    ∷ (1 ⇒ wrong_output form l (length out))
    ∷ (record_causes l (sheet_from form sheet)
    ++ judge_causes (image_of l (sheet_from form sheet) out) (newest_in l edition (sheet_from form sheet).chip))

unfoldable pub write_number : Form → Layout → Bool → List ℕ → List ℕ → ℕ
write_number form l edition sheet out = first_met (write_causes form l edition sheet out)

-- the output after the call: the new image, or unchanged on a refusal
unfoldable pub written : Form → Layout → Bool → List ℕ → List ℕ → List ℕ
written form l edition sheet out = pick (eqb (write_number form l edition sheet out) 0) (image_of l (sheet_from form sheet) out) out
