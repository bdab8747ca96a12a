-- The converters: why they refuse a sheet, and the buffer after their call (document 02, request 7). Each turns a sheet of one
-- form into the other: widening one that is narrow, narrowing one that is wide.
use Rattle.std.specs.Prelude.{ℕ, ◌≤◌, ◌≡◌, List, [], ◌∷◌, ◌++◌, Bool, true, false, ◌&&◌, ◌||◌, not, length, drop, eqb, ltb}
use Rattle.rom.specs.Bytes.{pick}
use Rattle.rom.specs.Refusal.{Cause, ◌⇒◌, first_met}
use Rattle.sheet.specs.declared.Form.{Form}
use Rattle.sheet.specs.declared.Made.{Made}
use Rattle.sheet.specs.Lists.{over}
use Rattle.sheet.specs.Layout.{id_at}
use Rattle.sheet.specs.Form.{is_wide, other, shifted, count_in, total_in, counts_of}
use Rattle.sheet.specs.Sheet.{is_sheet}

-- the same block count and total in the other form, and all that follows
unfoldable pub converted : Form → List ℕ → List ℕ
converted from s = counts_of (other from) (count_in from s) (total_in from s) ++ drop id_at (shifted from s)

-- N or T over 255 when narrowing
unfoldable pub too_large : Form → List ℕ → Bool
too_large from s = is_wide from && (ltb 255 (count_in from s) || ltb 255 (total_in from s))

-- for a buffer of a length
unfoldable pub convert_causes : Form → List ℕ → ℕ → List Cause
convert_causes from s room =
    (24 ⇒ not (is_sheet from s)) ∷ (33 ⇒ too_large from s) ∷ (12 ⇒ ltb room (length (converted from s))) ∷ []

-- a sheet that passes them
pub record Convertible (from : Form) (s : List ℕ) (room : ℕ) : Type 0 where
  pub is : is_sheet from s ≡ true
  pub small : too_large from s ≡ false
  pub fits : length (converted from s) ≤ room

unfoldable pub convert_number : Form → List ℕ → ℕ → ℕ
convert_number from s room = first_met (convert_causes from s room)

-- the new sheet's length, 0 on a refusal
unfoldable pub convert_length : Form → List ℕ → ℕ → ℕ
convert_length from s room = pick (eqb (convert_number from s room) 0) (length (converted from s)) 0

-- the buffer after the call: the sheet at its front and its other bytes unchanged, or all of them unchanged on a refusal
unfoldable pub converted_in : Form → List ℕ → List ℕ → List ℕ
converted_in from s buffer = pick (eqb (convert_number from s (length buffer)) 0) (over buffer (converted from s)) buffer

-- what is answered
unfoldable pub converted_for : Form → List ℕ → ℕ → Made
converted_for from s room = record { number = convert_number from s room; length = convert_length from s room }
