-- What computes of version 1 (document 02, request 12).
use Rattle.std.specs.Prelude.{◌≡◌, [], ◌∷◌, map, replicate, set}
use Rattle.rom.specs.Geometry.{large_size, without_magic, large}
use Rattle.format.specs.Chips.{the_first_edition, the_later_edition}
use Rattle.sheet.specs.declared.Form.TheVariants.{Narrow, Wide}
use Rattle.sheet.specs.Write.{write_number, written}
use Rattle.sheet.specs.Make.{make_number, made}
use Rattle.sheet.specs.Convert.{converted}
use Rattle.worked.specs.Sheets.{case21140, case21143, all_ones}
use Rattle.worked_first.specs.Cases.{in_its_edition, edition_cards, version_cards, sheet_under}

-- cards in either edition, and cards of other versions, are answered as they say
abbrev pub EditionsWorked : Type 0
EditionsWorked = map in_its_edition edition_cards ≡ edition_cards

abbrev pub VersionsWorked : Type 0
VersionsWorked = map in_its_edition version_cards ≡ version_cards

-- each edition writes the sheets of its own codes and of those that both have; the code is kept; written and made again in one
-- edition, a sheet returns, and in the other its image is refused; a chip that version 1 has not, and a kind
abbrev pub FirstSheetsWorked : Type 0
FirstSheetsWorked =
    (map (λ code. write_number Narrow without_magic the_first_edition (sheet_under code) all_ones) (0x0200 ∷ 0x0204 ∷ 0x0800 ∷ []) ≡ 0 ∷ 11
    ∷ 0 ∷ [])
    × (map (λ code. write_number Narrow without_magic the_later_edition (sheet_under code) all_ones) (0x0200 ∷ 0x0204 ∷ []) ≡ 11 ∷ 0 ∷ [])
    × (made Narrow without_magic the_first_edition (written Narrow without_magic the_first_edition (sheet_under 0x0200) all_ones) 21041
    (replicate 48 1)
    ≡ sheet_under 0x0200)
    × (make_number Narrow without_magic the_later_edition (written Narrow without_magic the_first_edition (sheet_under 0x0200) all_ones)
    21041 48 ≡ 11)
    × (write_number Narrow without_magic the_first_edition (set case21143.sheet 19 1) all_ones ≡ 38)
    × (write_number Narrow without_magic the_first_edition (set case21140.sheet 19 1) all_ones ≡ 14)

-- and so does a wide sheet, through an image of 512 bytes
abbrev pub FirstWideWorked : Type 0
FirstWideWorked =
    made Wide (large without_magic) the_first_edition
    (written Wide (large without_magic) the_first_edition (converted Narrow (sheet_under 0x0200)) (replicate large_size 1)) 21041
    (replicate 50 1)
    ≡ converted Narrow (sheet_under 0x0200)
