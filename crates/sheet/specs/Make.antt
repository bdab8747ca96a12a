-- The sheet maker: why it refuses an image, and the buffer after its call (document 01, 'The sheet', 'Why a call is refused').
use Rattle.std.specs.Prelude.{ℕ, List, [], ◌∷◌, ◌++◌, Bool, not, length, eqb, ltb, Result, Ok, Err}
use Rattle.rom.specs.declared.refusal.Refusal.{Refusal}
use Rattle.rom.specs.declared.Layout.{Layout}
use Rattle.rom.specs.Bytes.{pick}
use Rattle.rom.specs.Refusal.{Cause, ◌⇒◌, first_met}
use Rattle.rom.specs.Numbers.{refusal_number}
use Rattle.reader.specs.Reading.{judge_causes}
use Rattle.sheet.specs.Lists.{over}
use Rattle.sheet.specs.declared.Form.{Form}
use Rattle.sheet.specs.declared.Made.{Made}
use Rattle.sheet.specs.Form.{is_beyond}
use Rattle.sheet.specs.Sheet.{sheet_of}
use Rattle.sheet.specs.Image.{image_from, is_tidy, newest_in}

-- the sheet of an image for a chip
abbrev pub sheet_for : Form → Layout → List ℕ → ℕ → List ℕ
sheet_for form l image chip = sheet_of form (image_from l chip image)

-- for an edition and a buffer of a length: 1 for a stated size beyond the form, then the reader's numbers, 12 apart, at the
-- newest level and for controller 0, then not tidy, then the buffer too short
unfoldable pub make_causes : Form → Layout → Bool → List ℕ → ℕ → ℕ → List Cause
make_causes form l edition image chip room =
    (1 ⇒ is_beyond form l.size)
    ∷ judge_causes image (newest_in l edition chip)
    ++ (27 ⇒ not (is_tidy l chip image)) ∷ (12 ⇒ ltb room (length (sheet_for form l image chip))) ∷ []

unfoldable pub make_number : Form → Layout → Bool → List ℕ → ℕ → ℕ → ℕ
make_number form l edition image chip room = first_met (make_causes form l edition image chip room)

-- the sheet's length, 0 on a refusal
unfoldable pub make_length : Form → Layout → Bool → List ℕ → ℕ → ℕ → ℕ
make_length form l edition image chip room =
    pick (eqb (make_number form l edition image chip room) 0) (length (sheet_for form l image chip)) 0

-- the buffer after the call: the sheet at its front and its other bytes unchanged, or all of them unchanged on a refusal
unfoldable pub made : Form → Layout → Bool → List ℕ → ℕ → List ℕ → List ℕ
made form l edition image chip buffer =
    pick (eqb (make_number form l edition image chip (length buffer)) 0) (over buffer (sheet_for form l image chip)) buffer

-- what is answered
unfoldable pub made_for : Form → Layout → Bool → List ℕ → ℕ → ℕ → Made
made_for form l edition image chip room =
    record { number = make_number form l edition image chip room; length = make_length form l edition image chip room }

-- a length, or a refusal, as a C caller gets it
abbrev pub made_of : Result ℕ Refusal → Made
made_of (Ok n) = record { number = 0; length = n }
made_of (Err r) = record { number = refusal_number r; length = 0 }
