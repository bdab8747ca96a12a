-- The sheets, their images and their changes compute: the numbers with the CRCs apart, and each image's CRCs once, where it is
-- written. Assumes nothing.
use Prim.Native.Nat.{ℕ}
use mathlib.Core.Path.{◌≡◌, refl, ap, subst, ◌∙◌}
use mathlib.Core.List.{List, [], ◌∷◌, map, append-nil}
use lib.ListN.{length, replicate, set, length-replicate}
use lib.Seq.{drop-length}
use Rattle.rom.specs.declared.Layout.{Layout}
use Rattle.rom.specs.Geometry.{without_magic, with_magic}
use Rattle.checksum.specs.Crc.{srom_crc, id_crc}
use Rattle.format.specs.Chips.{the_later_edition}
use Rattle.sheet.specs.declared.Form.TheVariants.{Narrow}
use Rattle.sheet.specs.Lists.{over}
use Rattle.sheet.specs.Sheet.{sheet_from}
use Rattle.sheet.specs.Image.{image_of}
use Rattle.sheet.specs.Write.{written}
use Rattle.sheet.specs.Make.{sheet_for, made}
use Rattle.worked.specs.Sheets.{SheetCase, case21143, case21140, case21041, case_no_block, run_sheet, sheet_cases, try}
use Rattle.worked.specs.Sheets.{all_ones, changes, long, unknown_body, untidy, case_magic, untidy_magic}
use Rattle.worked.specs.Claims.{SheetsWorked, MagicSheetsWorked}
use Rattle.worked.proofs.Computes.{sheet-computes}
use Rattle.worked.proofs.Sealed.{Sealed}
use Rattle.worked.proofs.SheetsApart.{write_apart, write-apart, written_apart, written-sealed, make_apart, make-apart, made-apart}
use Rattle.worked.proofs.SheetsApart.{length-apart}

-- ## A sheet and its image

-- the sheet is written over an output as the image, and the image is made the sheet, in a buffer of its length
pub record EachOthers (l : Layout) (c : SheetCase) (out : List ℕ) : Type 0 where
  pub writes : write_apart Narrow l the_later_edition c.sheet out ≡ 0
  pub image : image_of l (sheet_from Narrow c.sheet) out ≡ c.image
  pub makes : make_apart Narrow l the_later_edition c.image c.chip (length c.sheet) ≡ 0
  pub sheet : sheet_for Narrow l c.image c.chip ≡ c.sheet

-- nothing is left of a buffer of that length
exactly : (s room : List ℕ) → length room ≡ length s → over room s ≡ s
unfolding over
exactly s room full = rw (← full, drop-length room) (append-nil s)

module _ (l : Layout) (c : SheetCase) (out : List ℕ) (e : EachOthers l c out) where
  is-written : written Narrow l the_later_edition c.sheet out ≡ c.image
  is-written = written_apart Narrow l the_later_edition c.sheet out e.writes ∙ e.image

  pub is-sealed : Sealed l c.image
  is-sealed = subst (Sealed l) e.image (written-sealed Narrow l the_later_edition c.sheet out e.writes)

  is_made : made Narrow l the_later_edition c.image c.chip (replicate (length c.sheet) 1) ≡ c.sheet
  is_made =
      let room : List ℕ = replicate (length c.sheet) 1 in
      let full : length room ≡ length c.sheet = length-replicate (length c.sheet) 1 in
      made-apart Narrow l the_later_edition c.image c.chip is-sealed room (rw full e.makes)
      ∙ ap (over room) e.sheet ∙ exactly c.sheet room full

runs : (c : SheetCase) → EachOthers without_magic c all_ones → run_sheet c ≡ c
unfolding run_sheet
runs c e = λ i. record { chip = c.chip; sheet = is_made without_magic c all_ones e i; image = is-written without_magic c all_ones e i }

-- the four cases: their images, with their CRCs, and the rest without
images :
    (image_of without_magic (sheet_from Narrow case21143.sheet) all_ones ≡ case21143.image)
    × (image_of without_magic (sheet_from Narrow case21140.sheet) all_ones ≡ case21140.image)
    × (image_of without_magic (sheet_from Narrow case21041.sheet) all_ones ≡ case21041.image)
    × (image_of without_magic (sheet_from Narrow case_no_block.sheet) all_ones ≡ case_no_block.image)
unfolding sheet-computes srom_crc id_crc case21143 case21140 case21041 case_no_block all_ones
images = (refl, refl, refl, refl)

pub of21143 : EachOthers without_magic case21143 all_ones
unfolding sheet-computes case21143 all_ones
of21143 = record { writes = refl; image = images.0; makes = refl; sheet = refl }

of21140 : EachOthers without_magic case21140 all_ones
unfolding sheet-computes case21140 all_ones
of21140 = record { writes = refl; image = images.1; makes = refl; sheet = refl }

of21041 : EachOthers without_magic case21041 all_ones
unfolding sheet-computes case21041 all_ones
of21041 = record { writes = refl; image = images.2; makes = refl; sheet = refl }

of_no_block : EachOthers without_magic case_no_block all_ones
unfolding sheet-computes case_no_block all_ones
of_no_block = record { writes = refl; image = images.3; makes = refl; sheet = refl }

all-run : map run_sheet sheet_cases ≡ sheet_cases
unfolding sheet_cases
all-run = λ i. runs case21143 of21143 i ∷ runs case21140 of21140 i ∷ runs case21041 of21041 i ∷ runs case_no_block of_no_block i ∷ []

-- ## Changes

-- an image that is not tidy, with its CRCs
untidy-sealed : Sealed without_magic untidy
unfolding sheet-computes srom_crc id_crc case21143 untidy
untidy-sealed = record { srom = refl; id = refl }

pub sheets-worked : SheetsWorked
unfolding sheet-computes case21143 case21140 case21041 try changes all_ones long unknown_body untidy
sheets-worked =
    let s = is-sealed without_magic case21143 all_ones of21143 in
    let i = case21143.image in (
      all-run,
      simp write-apart,
      simp write-apart,
      simp write-apart,
      simp write-apart,
      length-apart Narrow without_magic the_later_edition i 21143 s 57 refl ∙ refl,
      made-apart Narrow without_magic the_later_edition i 21143 s (replicate 57 1) refl ∙ refl,
      make-apart Narrow without_magic the_later_edition i 21143 s 54 ∙ refl,
      make-apart Narrow without_magic the_later_edition untidy 21143 untidy-sealed 57 ∙ refl,
    )

-- ## Before a Magic Packet block

-- the image with a byte of its leaf cleared
abbrev pub cleared : List ℕ
cleared = set case_magic.image 33 0

magic-image : image_of with_magic (sheet_from Narrow case_magic.sheet) cleared ≡ case_magic.image
unfolding sheet-computes srom_crc id_crc case21143 case_magic
magic-image = refl

pub of_magic : EachOthers with_magic case_magic cleared
unfolding sheet-computes case21143 case_magic
of_magic = record { writes = refl; image = magic-image; makes = refl; sheet = refl }

untidy-magic-sealed : Sealed with_magic untidy_magic
unfolding sheet-computes srom_crc id_crc case21143 case_magic untidy_magic
untidy-magic-sealed = record { srom = refl; id = refl }

pub magic-sheets-worked : MagicSheetsWorked
unfolding sheet-computes case21143 case21041 all_ones long case_magic untidy_magic
magic-sheets-worked = (
  is-written with_magic case_magic cleared of_magic,
  is_made with_magic case_magic cleared of_magic,
  simp write-apart,
  simp write-apart,
  make-apart Narrow with_magic the_later_edition untidy_magic 21143 untidy-magic-sealed 57 ∙ refl,
)
