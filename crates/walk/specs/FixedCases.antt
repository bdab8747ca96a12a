-- Fixed connections (document 02, request 5): a look under each fixed type of each chip's row, at leaves that have its medium and
-- at leaves that have not.
use Rattle.std.specs.Prelude.{ℕ, ◌/◌, ◌%◌, List, [], ◌∷◌, ◌++◌, true, false, eqb, length, replicate}
use Rattle.rom.specs.Geometry.{none}
use Rattle.rom.specs.Bytes.{pick}
use Rattle.rom.specs.Refusal.{first_met}
use Rattle.format.specs.Block.{the_later_version}
use Rattle.format.specs.Chips.{chips, row_of, newest_level}
use Rattle.leaf.specs.Leaf.{cut, leaf_causes}
use Rattle.walk.specs.declared.Walk.{Walk}
use Rattle.walk.specs.Walk.{way_of, is_fixed, rows_of, look_for}

-- a chip, a connection type and the blocks of a leaf; the number that a look answers, and the block that is then selected
pub record FixedCase : Type 0 where
  pub chip : ℕ
  pub connection : ℕ
  pub blocks : List (List ℕ)
  pub number : ℕ
  pub selected : ℕ

-- one behind the other
unfoldable pub joined : List (List ℕ) → List ℕ
joined [] = []
joined (b ∷ bs) = b ++ joined bs

-- as a reader cuts them
unfoldable pub cut_for : FixedCase → List (List ℕ)
cut_for c = cut (row_of c.chip) (length c.blocks) (joined c.blocks)

-- a walk that is loaded with them, after so many looks
unfoldable pub fixed_walk : ℕ → FixedCase → Walk
fixed_walk looks c = record {
  loaded = true;
  connection = c.connection;
  blocks = length c.blocks;
  rows = rows_of c.connection (row_of c.chip) newest_level (cut_for c);
  default_number = none;
  settled = false;
  selected = none;
  looks = looks;
  switches = 0;
}

-- what a look with this link at every block answers; where the leaf is refused, that number
unfoldable pub looked_at : ℕ → FixedCase → FixedCase
looked_at link c =
    let refused = first_met (leaf_causes the_later_version (row_of c.chip) newest_level (cut_for c)) in
    let r = look_for (fixed_walk 0 c) (replicate (length c.blocks) link) in
    record {
      chip = c.chip;
      connection = c.connection;
      blocks = c.blocks;
      number = pick (eqb refused 0) r.number refused;
      selected = r.walk.selected;
    }

-- the number alone, of a look with an empty report after so many looks
unfoldable pub number_after : ℕ → FixedCase → ℕ
number_after looks c = (look_for (fixed_walk looks c) []).number

-- 32 where no block has the medium, else this number
unfoldable pub unless_missing : ℕ → FixedCase → ℕ
unless_missing number c = pick (eqb c.number 32) 32 number

-- ## Blocks of a medium

abbrev block21041 : ℕ → List ℕ
block21041 code = code ∷ []

abbrev compact_block : ℕ → List ℕ
compact_block code = code ∷ 0 ∷ 0 ∷ 0 ∷ []

abbrev type0 : ℕ → List ℕ
type0 code = 0x85 ∷ 0 ∷ code ∷ 0 ∷ 0 ∷ 0 ∷ []

abbrev type2 : ℕ → List ℕ
type2 code = 0x86 ∷ 2 ∷ code ∷ replicate 4 0

abbrev type4 : ℕ → List ℕ
type4 code = 0x88 ∷ 4 ∷ code ∷ replicate 6 0

-- PHY number and capabilities
abbrev type1 : ℕ → ℕ → List ℕ
type1 number capabilities = 0x8C ∷ 1 ∷ number ∷ 0 ∷ 0 ∷ capabilities % 256 ∷ capabilities / 256 ∷ replicate 6 0

abbrev type3 : ℕ → ℕ → List ℕ
type3 number capabilities = 0x8D ∷ 3 ∷ number ∷ 0 ∷ 0 ∷ capabilities % 256 ∷ capabilities / 256 ∷ replicate 7 0

-- ## A fixed type, and blocks for a leaf

pub data FixedType : Type 0 where
  -- two blocks that have its medium, and one that has another
  held : ℕ → List ℕ → List ℕ → List ℕ → FixedType
  -- where the chip can hold none: a block that has another
  not_held : ℕ → List ℕ → FixedType

abbrev pub type_of : FixedType → ℕ
type_of (held connection first second another) = connection
type_of (not_held connection another) = connection

abbrev case_of : ℕ → ℕ → List (List ℕ) → ℕ → ℕ → FixedCase
case_of chip connection blocks number selected =
    record { chip = chip; connection = connection; blocks = blocks; number = number; selected = selected }

-- with the other block behind them the second is the first in table order; without them, 32
unfoldable pub cases_of : ℕ → FixedType → List FixedCase
cases_of chip (held connection first second another) =
    case_of chip connection (first ∷ second ∷ another ∷ []) 0 1 ∷ case_of chip connection (another ∷ []) 32 none ∷ []
cases_of chip (not_held connection another) = case_of chip connection (another ∷ []) 32 none ∷ []

unfoldable pub cases_for : ℕ → List FixedType → List FixedCase
cases_for chip [] = []
cases_for chip (t ∷ ts) = cases_of chip t ++ cases_for chip ts

-- ## Each chip's fixed types, in the order of its row: connection type, media code and another one

abbrev on21041 : ℕ → ℕ → ℕ → FixedType
on21041 connection code other = held connection (block21041 code) (block21041 code) (block21041 other)

abbrev on_port : ℕ → ℕ → ℕ → FixedType
on_port connection code other = held connection (compact_block code) (type0 code) (compact_block other)

abbrev on_sia : ℕ → ℕ → ℕ → FixedType
on_sia connection code other = held connection (type2 code) (type2 code) (type2 other)

abbrev on_symbol : ℕ → ℕ → ℕ → FixedType
on_symbol connection code other = held connection (type4 code) (type4 code) (type4 other)

unfoldable pub fixed21041 : List FixedType
fixed21041 =
    on21041 0x0000 0 1 ∷ on21041 0x0100 0 4 ∷ on21041 0x0204 4 0 ∷ on21041 0x0400 0 2 ∷ on21041 0x0001 1 0 ∷ on21041 0x0002 2 1 ∷ []

-- by a capability bit: one PHY has it alone, one has all, and one has all but it
abbrev on_phy : (ℕ → ℕ → List ℕ) → List FixedType
on_phy phy =
    held 0x0009 (phy 0 0x0800) (phy 1 0xFFFF) (phy 0 0xF7FF)
    ∷ held 0x020A (phy 0 0x1000) (phy 1 0xFFFF) (phy 0 0xEFFF)
    ∷ held 0x000D (phy 0 0x2000) (phy 1 0xFFFF) (phy 0 0xDFFF)
    ∷ held 0x020E (phy 0 0x4000) (phy 1 0xFFFF) (phy 0 0xBFFF)
    ∷ held 0x000F (phy 0 0x8000) (phy 1 0xFFFF) (phy 0 0x7FFF)
    ∷ not_held 0x0010 (phy 0 0xFFFF)
    ∷ not_held 0x0211 (phy 0 0xFFFF)
    ∷ []

unfoldable pub fixed21140 : List FixedType
fixed21140 =
    (on_port 0x0000 0 1 ∷ on_port 0x0100 0 4 ∷ on_port 0x0204 4 0 ∷ on_port 0x0001 1 0 ∷ on_port 0x0003 3 5 ∷ on_port 0x0205 5 3
    ∷ on_port 0x0006 6 7 ∷ on_port 0x0007 7 8 ∷ on_port 0x0208 8 7 ∷ []) ++ on_phy type1

-- the 21142, 21143 and 21145, with the fixed types of the symbol media between those of the SIA media
abbrev fixed_with : List FixedType → List FixedType
fixed_with symbols =
    (on_sia 0x0000 0 1 ∷ on_sia 0x0100 0 4 ∷ on_sia 0x0204 4 0 ∷ on_sia 0x0001 1 2 ∷ []) ++ symbols ++ on_phy type3
    ++ on_sia 0x0002 2 1 ∷ []

unfoldable pub fixed21142 : List FixedType
fixed21142 =
    fixed_with
    (not_held 0x0003 (type2 0) ∷ not_held 0x0205 (type2 0) ∷ not_held 0x0006 (type2 0) ∷ not_held 0x0007 (type2 0)
    ∷ not_held 0x0208 (type2 0) ∷ [])

unfoldable pub fixed21143 : List FixedType
fixed21143 =
    fixed_with
    (on_symbol 0x0003 3 5 ∷ on_symbol 0x0205 5 3 ∷ on_symbol 0x0006 6 7 ∷ on_symbol 0x0007 7 8 ∷ on_symbol 0x0208 8 7 ∷ [])

-- by the chips' rows
unfoldable pub fixed_tables : List (List FixedType)
fixed_tables = fixed21041 ∷ fixed21140 ∷ fixed21142 ∷ fixed21143 ∷ fixed21143 ∷ []

-- of a row of connection types, those that are fixed
unfoldable pub fixed_of : List ℕ → List ℕ
fixed_of [] = []
fixed_of (c ∷ cs) = pick (is_fixed (way_of c)) (c ∷ fixed_of cs) (fixed_of cs)

-- ## The cases

-- chip by chip
unfoldable pub cases_of_all : List ℕ → List (List FixedType) → List FixedCase
cases_of_all [] tables = []
cases_of_all (chip ∷ rest) [] = []
cases_of_all (chip ∷ rest) (types ∷ tables) = cases_for chip types ++ cases_of_all rest tables

unfoldable pub fixed_cases : List FixedCase
fixed_cases =
    cases_of_all chips fixed_tables
    -- a PHY is not taken for a medium whose code is among its bytes
    ++ case_of 21140 0x0000 (type1 0 0 ∷ []) 32 none
    ∷ case_of 21140 0x0001 (type1 1 0x0101 ∷ []) 32 none
    ∷ case_of 21143 0x0003 (type3 3 0x0303 ∷ type4 3 ∷ type3 3 0x0303 ∷ []) 0 1
    ∷ case_of 21142 0x0204 (type3 4 0x0404 ∷ []) 32 none
    -- and a medium not for a PHY
    ∷ case_of 21140 0x0009 (compact_block 8 ∷ type0 8 ∷ []) 32 none
    ∷ case_of 21143 0x000D ((0x88 ∷ 4 ∷ 3 ∷ replicate 6 0xFF) ∷ []) 32 none
    -- codes of edition 1.00: 0x0200 is fixed to medium 4 and 0x0203 to medium 5, not to 0 and 3 (document 02, request 12)
    ∷ case_of 21041 0x0200 (block21041 0 ∷ block21041 4 ∷ block21041 0 ∷ []) 0 1
    ∷ case_of 21041 0x0200 (block21041 0 ∷ []) 32 none
    ∷ case_of 21140 0x0200 (compact_block 0 ∷ compact_block 4 ∷ compact_block 0 ∷ []) 0 1
    ∷ case_of 21140 0x0203 (compact_block 3 ∷ compact_block 5 ∷ compact_block 3 ∷ []) 0 1
    ∷ case_of 21140 0x0203 (compact_block 3 ∷ []) 32 none
    ∷ []
