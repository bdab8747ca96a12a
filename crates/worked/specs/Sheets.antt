-- Sheets and their images, as the second implementation (tests/second) has them, and what small changes of them are refused
-- with.
use Rattle.std.specs.Prelude.{ℕ, ◌*◌, List, [], ◌∷◌, ◌++◌, length, take, drop, replicate, set}
use Rattle.rom.specs.Geometry.{small_size, without_magic}
use Rattle.packet.specs.Cases.{whole_block}
use Rattle.format.specs.Chips.{the_later_edition}
use Rattle.sheet.specs.declared.Form.TheVariants.{Narrow}
use Rattle.sheet.specs.Write.{write_number, written}
use Rattle.sheet.specs.Make.{made}

-- ## Sheets and images that are each other's

pub record SheetCase : Type 0 where
  pub chip : ℕ
  pub sheet : List ℕ
  pub image : List ℕ

-- three blocks of a 21143: type 2 with five bytes, the unknown type 9 with none, type 4 with seven
unfoldable pub case21143 : SheetCase
case21143 = record {
  chip = 21143;
  sheet =
      3 ∷ 12
      ∷ 0x11 ∷ 0x22 ∷ 0x33 ∷ 0x44 ∷ 0x55 ∷ 0x66 ∷ 0x77 ∷ 0x88 ∷ 0 ∷ 0 ∷ 0 ∷ 0 ∷ 0 ∷ 0 ∷ 0x99 ∷ 0xAA ∷ 0xBB
      ∷ 4 ∷ 0 ∷ 0 ∷ 0xF8 ∷ 1 ∷ 2 ∷ 3 ∷ 5
      ∷ 0x97 ∷ 0x52 ∷ 0 ∷ 8 ∷ 0 ∷ 0xCC ∷ 0xDD
      ∷ 2 ∷ 0 ∷ 9 ∷ 0 ∷ 4 ∷ 0
      ∷ 5 ∷ 0 ∷ 7
      ∷ 0 ∷ 1 ∷ 0 ∷ 2 ∷ 0
      ∷ 3 ∷ 0x10 ∷ 0 ∷ 0x20 ∷ 0 ∷ 0x61 ∷ 0x40 ∷ [];
  image =
      (0x11 ∷ 0x22 ∷ 0x33 ∷ 0x44 ∷ 0x55 ∷ 0x66 ∷ 0x77 ∷ 0x88 ∷ 0 ∷ 0 ∷ 0 ∷ 0 ∷ 0 ∷ 0 ∷ 0x99 ∷ 0xAA ∷ 0x55 ∷ 0xBB
      ∷ 4 ∷ 1 ∷ 0 ∷ 0 ∷ 0xF8 ∷ 1 ∷ 2 ∷ 3 ∷ 5 ∷ 30 ∷ 0 ∷ 0
      ∷ 0 ∷ 8 ∷ 3
      ∷ 0x86 ∷ 2 ∷ 0 ∷ 1 ∷ 0 ∷ 2 ∷ 0
      ∷ 0x81 ∷ 9
      ∷ 0x88 ∷ 4 ∷ 3 ∷ 0x10 ∷ 0 ∷ 0x20 ∷ 0 ∷ 0x61 ∷ 0x40 ∷ [])
      ++ (replicate 73 0 ++ 0xCC ∷ 0xDD ∷ 0x31 ∷ 0x95 ∷ []);
}

-- a control byte, a compact block and a reset of a 21140
unfoldable pub case21140 : SheetCase
case21140 = record {
  chip = 21140;
  sheet =
      2 ∷ 7
      ∷ 0xAA ∷ 0x99 ∷ 0 ∷ 0 ∷ 0 ∷ 0 ∷ 0 ∷ 0 ∷ 0x88 ∷ 0x77 ∷ 0x66 ∷ 0x55 ∷ 0x44 ∷ 0x33 ∷ 0x22 ∷ 0x11 ∷ 1
      ∷ 3 ∷ 3 ∷ 2 ∷ 1 ∷ 0xF8 ∷ 0 ∷ 0 ∷ 0xFF
      ∷ 0x94 ∷ 0x52 ∷ 0 ∷ 0x88 ∷ 0x1F ∷ 0 ∷ 0xFF
      ∷ 0 ∷ 1 ∷ 5 ∷ 0
      ∷ 4 ∷ 3
      ∷ 5 ∷ 0x0F ∷ 0x61 ∷ 0x80
      ∷ 1 ∷ 0x34 ∷ 0x12 ∷ [];
  image =
      (0xAA ∷ 0x99 ∷ 0 ∷ 0 ∷ 0 ∷ 0 ∷ 0 ∷ 0 ∷ 0x88 ∷ 0x77 ∷ 0x66 ∷ 0x55 ∷ 0x44 ∷ 0x33 ∷ 0x22 ∷ 0x11 ∷ 0x1A ∷ 1
      ∷ 3 ∷ 1 ∷ 3 ∷ 2 ∷ 1 ∷ 0xF8 ∷ 0 ∷ 0 ∷ 0xFF ∷ 30 ∷ 0 ∷ 0
      ∷ 0 ∷ 0x88 ∷ 0x1F ∷ 2
      ∷ 5 ∷ 0x0F ∷ 0x61 ∷ 0x80
      ∷ 0x84 ∷ 5 ∷ 1 ∷ 0x34 ∷ 0x12 ∷ [])
      ++ (replicate 81 0 ++ 0 ∷ 0xFF ∷ 0x52 ∷ 0xA6 ∷ []);
}

-- a 21041 block with EXT, and one without
unfoldable pub case21041 : SheetCase
case21041 = record {
  chip = 21041;
  sheet =
      2 ∷ 8
      ∷ 0xFF ∷ 0xFF ∷ 0xFF ∷ 0xFF ∷ 0xFF ∷ 0xFF ∷ 0xFF ∷ 0xFF ∷ 0xFF ∷ 0xFF ∷ 0xFF ∷ 0xFF ∷ 0xFF ∷ 0xFF ∷ 0xFF ∷ 0xFF ∷ 0
      ∷ 4 ∷ 0xFF ∷ 0xFF ∷ 0xFF ∷ 0xFF ∷ 0xFF ∷ 0xFF ∷ 0
      ∷ 0x31 ∷ 0x52 ∷ 0 ∷ 9 ∷ 0 ∷ 1 ∷ 2
      ∷ 1 ∷ 1 ∷ 1 ∷ 1
      ∷ 7 ∷ 1
      ∷ 0x41 ∷ 1 ∷ 2 ∷ 3 ∷ 4 ∷ 5 ∷ 6
      ∷ 2 ∷ [];
  image =
      (0xFF ∷ 0xFF ∷ 0xFF ∷ 0xFF ∷ 0xFF ∷ 0xFF ∷ 0xFF ∷ 0xFF ∷ 0xFF ∷ 0xFF ∷ 0xFF ∷ 0xFF ∷ 0xFF ∷ 0xFF ∷ 0xFF ∷ 0xFF ∷ 9 ∷ 0
      ∷ 4 ∷ 1 ∷ 0xFF ∷ 0xFF ∷ 0xFF ∷ 0xFF ∷ 0xFF ∷ 0xFF ∷ 0 ∷ 30 ∷ 0 ∷ 0
      ∷ 0 ∷ 9 ∷ 2
      ∷ 0x41 ∷ 1 ∷ 2 ∷ 3 ∷ 4 ∷ 5 ∷ 6
      ∷ 2 ∷ [])
      ++ (replicate 83 0 ++ 1 ∷ 2 ∷ 0x6E ∷ 0x2A ∷ []);
}

-- no block
unfoldable pub case_no_block : SheetCase
case_no_block = record {
  chip = 21145;
  sheet =
      0 ∷ 0
      ∷ 0 ∷ 0 ∷ 0 ∷ 0 ∷ 0 ∷ 0 ∷ 0 ∷ 0 ∷ 0 ∷ 0 ∷ 0 ∷ 0 ∷ 0 ∷ 0 ∷ 0 ∷ 0 ∷ 0
      ∷ 3 ∷ 0 ∷ 0 ∷ 0 ∷ 0 ∷ 0 ∷ 0 ∷ 0x1F
      ∷ 0x99 ∷ 0x52 ∷ 0xFF ∷ 0xFF ∷ 0 ∷ 0 ∷ 0 ∷ [];
  image =
      (0 ∷ 0 ∷ 0 ∷ 0 ∷ 0 ∷ 0 ∷ 0 ∷ 0 ∷ 0 ∷ 0 ∷ 0 ∷ 0 ∷ 0 ∷ 0 ∷ 0 ∷ 0 ∷ 0xE1 ∷ 0
      ∷ 3 ∷ 1 ∷ 0 ∷ 0 ∷ 0 ∷ 0 ∷ 0 ∷ 0 ∷ 0x1F ∷ 30 ∷ 0 ∷ 0
      ∷ 0xFF ∷ 0xFF ∷ 0 ∷ [])
      ++ (replicate 91 0 ++ 0 ∷ 0 ∷ 0x93 ∷ 0x94 ∷ []);
}

-- an image of ones
unfoldable pub all_ones : List ℕ
all_ones = replicate small_size 1

-- the sheet written over an image of ones, and the image made a sheet in a buffer of ones
unfoldable pub run_sheet : SheetCase → SheetCase
run_sheet c = record {
  chip = c.chip;
  sheet = made Narrow without_magic the_later_edition c.image c.chip (replicate (length c.sheet) 1);
  image = written Narrow without_magic the_later_edition c.sheet all_ones;
}

unfoldable pub sheet_cases : List SheetCase
sheet_cases = case21143 ∷ case21140 ∷ case21041 ∷ case_no_block ∷ []

-- ## Changes

-- a byte of a sheet that is changed, its new value, and the writer's number
pub record Change : Type 0 where
  pub sheet : List ℕ
  pub at : ℕ
  pub value : ℕ
  pub number : ℕ

unfoldable pub try : Change → Change
try c = record {
  sheet = c.sheet;
  at = c.at;
  value = c.value;
  number = write_number Narrow without_magic the_later_edition (set c.sheet c.at c.value) all_ones;
}

abbrev change : SheetCase → ℕ → ℕ → ℕ → Change
change c at value number = record { sheet = c.sheet; at = at; value = value; number = number }

unfoldable pub changes : List Change
changes =
    -- total, a body size, count
    change case21143 1 13 24 ∷ change case21143 40 4 24 ∷ change case21143 0 4 24
    -- no chip; a 21142, which does not permit type 4
    ∷ change case21143 28 0 7 ∷ change case21143 27 0x96 14
    -- kind over 257; a control byte
    ∷ change case21143 35 2 25 ∷ change case21143 31 1 25
    -- version, connection type, code of the last block
    ∷ change case21143 19 5 2 ∷ change case21143 29 5 11 ∷ change case21143 48 4 16
    -- a 21041 kind, a compact body's top bit
    ∷ change case21140 34 1 25 ∷ change case21140 40 0x85 25
    -- a compact kind, EXT of a body of seven bytes, the reserved bit
    ∷ change case21041 34 0 25 ∷ change case21041 40 1 25 ∷ change case21041 40 0xC1 16 ∷ []

-- so many 21041 blocks of one byte
unfoldable pub long : ℕ → List ℕ
long n = n ∷ n ∷ (drop 2 (take 34 case21041.sheet) ++ (replicate (3 * n) 1 ++ replicate n 2))

-- a 21143 block of the unknown type 9 with so many bytes in its body
unfoldable pub unknown_body : ℕ → List ℕ
unknown_body n = 1 ∷ n ∷ (drop 2 (take 34 case21143.sheet) ++ 9 ∷ 0 ∷ n ∷ replicate n 0)

-- case21143's image with byte 123 set, and its CRC
unfoldable pub untidy : List ℕ
untidy = set (take 124 case21143.image) 123 1 ++ 0xCC ∷ 0xDD ∷ 0x06 ∷ 0xFF ∷ []

-- ## Before a Magic Packet block

-- case21143's sheet, and its image before a block that is read
unfoldable pub case_magic : SheetCase
case_magic = record {
  chip = case21143.chip;
  sheet = case21143.sheet;
  image =
      (0x11 ∷ 0x22 ∷ 0x33 ∷ 0x44 ∷ 0x55 ∷ 0x66 ∷ 0x77 ∷ 0x88 ∷ 0 ∷ 0 ∷ 0 ∷ 0 ∷ 0 ∷ 0 ∷ 0x99 ∷ 0xAA ∷ 0x55 ∷ 0xBB
      ∷ 4 ∷ 1 ∷ 0 ∷ 0 ∷ 0xF8 ∷ 1 ∷ 2 ∷ 3 ∷ 5 ∷ 30 ∷ 0 ∷ 0
      ∷ 0 ∷ 8 ∷ 3
      ∷ 0x86 ∷ 2 ∷ 0 ∷ 1 ∷ 0 ∷ 2 ∷ 0
      ∷ 0x81 ∷ 9
      ∷ 0x88 ∷ 4 ∷ 3 ∷ 0x10 ∷ 0 ∷ 0x20 ∷ 0 ∷ 0x61 ∷ 0x40 ∷ [])
      ++ (replicate 41 0 ++ 0xCC ∷ 0xDD ∷ 0x4B ∷ 0xE1 ∷ [])
      ++ whole_block;
}

-- the same with byte 91 set, and its CRC
unfoldable pub untidy_magic : List ℕ
untidy_magic = set (take 92 case_magic.image) 91 1 ++ (0xCC ∷ 0xDD ∷ 0x7C ∷ 0x8B ∷ whole_block)
