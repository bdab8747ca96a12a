-- What computes of wide sheets (document 02, request 7).
use Rattle.std.specs.Prelude.{◌≡◌, [], ◌∷◌, ◌++◌, map, length, replicate, set}
use Rattle.rom.specs.Geometry.{small_size, large_size, without_magic, with_magic, large}
use Rattle.format.specs.Chips.{the_later_edition}
use Rattle.sheet.specs.declared.Form.TheVariants.{Narrow, Wide}
use Rattle.sheet.specs.Write.{write_number, written}
use Rattle.sheet.specs.Make.{make_number, made}
use Rattle.sheet.specs.Convert.{convert_number, converted_in}
use Rattle.sheet.specs.Claims.{longest_sheet}
use Rattle.worked.specs.Sheets.{case21143, case_magic, all_ones}
use Rattle.worked_large.specs.Cases.{whole_card}
use Rattle.worked_wide.specs.Sheets.{wide21143, wide_long}

-- a sheet in both forms: converted, written and made; a byte behind it stays
abbrev pub WideSheetsWorked : Type 0
WideSheetsWorked =
    (converted_in Narrow case21143.sheet (replicate 58 1) ≡ wide21143 ++ 1 ∷ [])
    × (converted_in Wide wide21143 (replicate 56 1) ≡ case21143.sheet ++ 1 ∷ [])
    × (written Wide without_magic the_later_edition wide21143 all_ones ≡ case21143.image)
    × (written Wide with_magic the_later_edition wide21143 (set case_magic.image 33 0) ≡ case_magic.image)
    × (made Wide without_magic the_later_edition case21143.image 21143 (replicate 58 1) ≡ wide21143 ++ 1 ∷ [])

-- and through images of 512 bytes, without a Magic Packet block and with one
abbrev pub LargeSheetsWorked : Type 0
LargeSheetsWorked =
    (made Wide (large without_magic) the_later_edition
    (written Wide (large without_magic) the_later_edition wide21143 (replicate large_size 1)) 21143
    (replicate 57 1) ≡ wide21143)
    × (made Wide (large with_magic) the_later_edition
    (written Wide (large with_magic) the_later_edition wide21143 (whole_card (large with_magic))) 21143 (replicate 57 1) ≡ wide21143)

-- the longest sheets are written, for each size; a block more is 33, a byte more 26
abbrev pub LongestReached : Type 0
LongestReached =
    (write_number Wide without_magic the_later_edition (wide_long 91 0) all_ones ≡ 0)
    × (length (wide_long 91 0) ≡ longest_sheet Wide small_size)
    × (convert_number Wide (wide_long 91 0) (longest_sheet Narrow small_size) ≡ 0)
    × (write_number Wide (large without_magic) the_later_edition (wide_long 219 36) (replicate large_size 1) ≡ 0)
    × (length (wide_long 219 36) ≡ longest_sheet Wide large_size)
    × (write_number Wide (large without_magic) the_later_edition (wide_long 220 36) (replicate large_size 1) ≡ 33)
    × (write_number Wide (large without_magic) the_later_edition (wide_long 218 37) (replicate large_size 1) ≡ 26)

-- refusals in their order: 24, the sum being wrong, before 33; 33 before 1 and before 12; a sheet of one form taken for the other;
-- N of 255 and 256, and T of 255 and 256, narrowed; a buffer that is a byte too short
abbrev pub WideRefusalsWorked : Type 0
WideRefusalsWorked =
    (map (λ s. write_number Wide without_magic the_later_edition s []) (set (wide_long 256 0) 2 1 ∷ wide_long 256 0 ∷ wide_long 255 0 ∷ [])
    ≡ 24 ∷ 33 ∷ 1 ∷ [])
    × (map (λ s. convert_number Wide s 0) (set (wide_long 256 0) 2 1 ∷ wide_long 256 0 ∷ wide_long 255 0 ∷ []) ≡ 24 ∷ 33 ∷ 12 ∷ [])
    × (write_number Narrow without_magic the_later_edition wide21143 all_ones ≡ 24)
    × (write_number Wide without_magic the_later_edition case21143.sheet all_ones ≡ 24)
    × (convert_number Narrow wide21143 100 ≡ 24)
    × (convert_number Wide case21143.sheet 100 ≡ 24)
    × (map (λ s. convert_number Wide s 1054) (wide_long 255 0 ∷ wide_long 248 1 ∷ wide_long 249 1 ∷ []) ≡ 0 ∷ 0 ∷ 33 ∷ [])
    × (map (convert_number Wide wide21143) (54 ∷ 55 ∷ []) ≡ 12 ∷ 0 ∷ [])
    × (map (convert_number Narrow case21143.sheet) (56 ∷ 57 ∷ []) ≡ 12 ∷ 0 ∷ [])
    × (make_number Wide without_magic the_later_edition case21143.image 21143 56 ≡ 12)
