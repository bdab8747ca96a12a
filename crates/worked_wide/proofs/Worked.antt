-- By computation, the CRCs apart: a wide sheet means what the narrow one does, whose image `worked` has. Assumes nothing.
use Prim.Native.Nat.{ℕ}
use mathlib.Core.Path.{◌≡◌, refl, ap, ◌∙◌}
use mathlib.Core.List.{List}
use lib.ListN.{replicate}
use Rattle.rom.specs.declared.Layout.{Layout}
use Rattle.rom.specs.Geometry.{large_size, without_magic, with_magic, large}
use Rattle.format.specs.Chips.{the_later_edition}
use Rattle.sheet.specs.declared.Form.TheVariants.{Narrow, Wide}
use Rattle.sheet.specs.Record.{Plain}
use Rattle.sheet.specs.Lists.{over}
use Rattle.sheet.specs.Sheet.{sheet_from}
use Rattle.sheet.specs.Image.{image_of}
use Rattle.sheet.specs.Write.{write_number, written}
use Rattle.sheet.specs.Make.{sheet_for, made}
use Rattle.sheet.specs.Convert.{converted, too_large, convert_causes, convert_number, converted_in}
use Rattle.sheet.specs.Claims.{longest_sheet}
use Rattle.worked.specs.Sheets.{case21041, case21143, case_magic, all_ones}
use Rattle.worked.proofs.Computes.{sheet-computes}
use Rattle.worked.proofs.Sealed.{Sealed}
use Rattle.worked.proofs.SheetsApart.{write_apart, write-apart, written_apart, make_apart, make-apart, made-apart, made-written}
use Rattle.worked.proofs.Sheets.{of21143, cleared, of_magic, is-sealed}
use Rattle.worked_large.specs.Cases.{card_with, whole_card}
use Rattle.worked_wide.specs.Sheets.{wide21143, with_ext, wide_long}
use Rattle.worked_wide.specs.Claims.{WideSheetsWorked, LargeSheetsWorked, LongestReached, WideRefusalsWorked}

unfoldable pub convert-computes : Unit {0}
unfolding sheet-computes converted too_large convert_causes convert_number converted_in wide21143 with_ext wide_long
convert-computes = tt

sealed21143 : Sealed without_magic case21143.image
sealed21143 = is-sealed without_magic case21143 all_ones of21143

-- ## A sheet in both forms

means-alike : sheet_from Wide wide21143 ≡ sheet_from Narrow case21143.sheet
unfolding convert-computes case21143
means-alike = refl

pub wide-sheets-worked : WideSheetsWorked
unfolding convert-computes case21143 case_magic all_ones
wide-sheets-worked = (
  refl,
  refl,
  written_apart Wide without_magic the_later_edition wide21143 all_ones refl
      ∙ ap (λ (p : Plain). image_of without_magic p all_ones) means-alike ∙ of21143.image,
  written_apart Wide with_magic the_later_edition wide21143 cleared refl
      ∙ ap (λ (p : Plain). image_of with_magic p cleared) means-alike ∙ of_magic.image,
  made-apart Wide without_magic the_later_edition case21143.image 21143 sealed21143 (replicate 58 1) refl ∙ refl,
)

-- ## Through images of 512 bytes

returns : (l : Layout) (out : List ℕ) → write_apart Wide l the_later_edition wide21143 out ≡ 0 →
    let image = image_of l (sheet_from Wide wide21143) out in
    make_apart Wide l the_later_edition image 21143 57 ≡ 0 → over (replicate 57 1) (sheet_for Wide l image 21143) ≡ wide21143
    → made Wide l the_later_edition (written Wide l the_later_edition wide21143 out) 21143 (replicate 57 1) ≡ wide21143
returns l out z m e = made-written Wide l the_later_edition wide21143 out z the_later_edition 21143 (replicate 57 1) m ∙ e

pub large-sheets-worked : LargeSheetsWorked
unfolding convert-computes card_with
large-sheets-worked = (
  returns (large without_magic) (replicate large_size 1) refl refl refl,
  returns (large with_magic) (whole_card (large with_magic)) refl refl refl,
)

-- ## The longest, and refusals: those before 3 compute as they stand

pub longest-reached : LongestReached
unfolding convert-computes write_number case21041 all_ones longest_sheet
longest-reached = (
  write-apart Wide without_magic the_later_edition (wide_long 91 0) all_ones ∙ refl,
  refl,
  refl,
  write-apart Wide (large without_magic) the_later_edition (wide_long 219 36) (replicate large_size 1) ∙ refl,
  refl,
  refl,
  refl,
)

pub wide-refusals-worked : WideRefusalsWorked
unfolding convert-computes write_number case21143 case21041 all_ones
wide-refusals-worked = (
  refl,
  refl,
  refl,
  refl,
  refl,
  refl,
  refl,
  refl,
  refl,
  make-apart Wide without_magic the_later_edition case21143.image 21143 sealed21143 56 ∙ refl,
)
