-- Blocks of every form, and what is said of each: those of document 01, 'Blocks to prove', and others on its rules and on those of
-- document 02, requests 3 and 5.
use Rattle.std.specs.Prelude.{ℕ, List, [], ◌∷◌, Bool, true, false, ◌&&◌, eqb, replicate}
use Rattle.rom.specs.Geometry.{none}
use Rattle.rom.specs.Bytes.{pick}
use Rattle.format.specs.Chips.{row_of}
use Rattle.format.specs.Block.{size_of, kind_of, facts_of, is_listed, is_power, is_default, resets_a_phy, refusal_of}

-- a chip, a level, the rest of a leaf, and what is said of its first block: the refusal's number, the size, whether it is
-- listed and then has Active_Invalid, is a default and resets a PHY, its media code and capabilities, and whether it counts as
-- power
pub record BlockCase : Type 0 where
  pub chip : ℕ
  pub level : ℕ
  pub rest : List ℕ
  pub number : ℕ
  pub size : ℕ
  pub listed : Bool
  pub invalid : Bool
  pub default : Bool
  pub resets : Bool
  pub code : ℕ
  pub capabilities : ℕ
  pub power : Bool

-- of a refused block nothing is said but its number and its size
unfoldable pub said : BlockCase → BlockCase
said c =
    let row = row_of c.chip in
    let accepted = eqb (refusal_of row c.level c.rest) 0 in
    let in_table = accepted && is_listed row c.level c.rest in
    let facts = facts_of (kind_of row c.rest) c.rest in
    record {
      chip = c.chip;
      level = c.level;
      rest = c.rest;
      number = refusal_of row c.level c.rest;
      size = size_of row c.rest;
      listed = in_table;
      invalid = in_table && facts.active_invalid;
      default = accepted && is_default row c.level c.rest;
      resets = accepted && resets_a_phy row c.level c.rest;
      code = pick in_table facts.code none;
      capabilities = pick in_table facts.capabilities 0;
      power = accepted && is_power row c.level c.rest;
    }

abbrev medium_block : ℕ → ℕ → List ℕ → ℕ → ℕ → Bool → Bool → BlockCase
medium_block chip level rest size code invalid default =
    record {
      chip = chip;
      level = level;
      rest = rest;
      number = 0;
      size = size;
      listed = true;
      invalid = invalid;
      default = default;
      resets = false;
      code = code;
      capabilities = 0;
      power = false;
    }

abbrev phy_block : ℕ → ℕ → List ℕ → ℕ → ℕ → Bool → BlockCase
phy_block chip level rest size capabilities resets =
    record {
      chip = chip;
      level = level;
      rest = rest;
      number = 0;
      size = size;
      listed = true;
      invalid = false;
      default = false;
      resets = resets;
      code = none;
      capabilities = capabilities;
      power = false;
    }

-- without an entry in the table: refused, or with number 0 of type 5 or of an unknown type
abbrev unlisted_block : ℕ → ℕ → List ℕ → ℕ → ℕ → BlockCase
unlisted_block chip level rest size number =
    record {
      chip = chip;
      level = level;
      rest = rest;
      number = number;
      size = size;
      listed = false;
      invalid = false;
      default = false;
      resets = false;
      code = none;
      capabilities = 0;
      power = false;
    }

abbrev power_block : ℕ → ℕ → List ℕ → ℕ → BlockCase
power_block chip level rest size =
    record {
      chip = chip;
      level = level;
      rest = rest;
      number = 0;
      size = size;
      listed = false;
      invalid = false;
      default = false;
      resets = false;
      code = none;
      capabilities = 0;
      power = true;
    }

unfoldable pub block_cases : List BlockCase
block_cases =
    -- the 21041's own form, with EXT and without; its reserved bit, a code that is none, and one byte too few
    medium_block 21041 0 (0x02 ∷ []) 1 2 false false
    ∷ medium_block 21041 6 (0x41 ∷ replicate 6 0) 7 1 false false
    ∷ unlisted_block 21041 6 (0x80 ∷ []) 1 16
    ∷ unlisted_block 21041 6 (0x03 ∷ []) 1 16
    ∷ unlisted_block 21041 6 (0x44 ∷ replicate 5 0) 7 13
    -- compact: at the end of the rest, and a byte too few; reserved bits of code and command; Active_Invalid and Default
    ∷ medium_block 21140 0 (0x08 ∷ 0x55 ∷ 0xFF ∷ 0x00 ∷ []) 4 8 false false
    ∷ unlisted_block 21140 0 (0x08 ∷ 0x55 ∷ 0xFF ∷ []) 4 13
    ∷ unlisted_block 21140 6 (0x40 ∷ 0x00 ∷ 0x00 ∷ 0x00 ∷ []) 4 16
    ∷ unlisted_block 21140 6 (0x02 ∷ 0x00 ∷ 0x00 ∷ 0x00 ∷ []) 4 16
    ∷ unlisted_block 21140 6 (0x00 ∷ 0x00 ∷ 0x00 ∷ 0x20 ∷ []) 4 16
    ∷ unlisted_block 21140 6 (0x00 ∷ 0x00 ∷ 0x00 ∷ 0x01 ∷ []) 4 16
    ∷ medium_block 21140 6 (0x03 ∷ 0x00 ∷ 0x00 ∷ 0x40 ∷ []) 4 3 false true
    ∷ medium_block 21140 6 (0x03 ∷ 0x00 ∷ 0x00 ∷ 0xC0 ∷ []) 4 3 true false
    ∷ medium_block 21140 6 (0x04 ∷ 0x00 ∷ 0x00 ∷ 0x40 ∷ []) 4 4 false false
    ∷ unlisted_block 21143 6 (0x00 ∷ 0x00 ∷ 0x00 ∷ 0x00 ∷ []) 4 14
    -- type 0: as compact, of length 5
    ∷ medium_block 21140 1 (0x85 ∷ 0x00 ∷ 0x06 ∷ 0x00 ∷ 0x00 ∷ 0x40 ∷ []) 6 6 false true
    ∷ unlisted_block 21140 0 (0x85 ∷ 0x00 ∷ 0x06 ∷ 0x00 ∷ 0x00 ∷ 0x40 ∷ []) 6 0
    ∷ unlisted_block 21140 1 (0x86 ∷ 0x00 ∷ 0x06 ∷ 0x00 ∷ 0x00 ∷ 0x40 ∷ 0x00 ∷ []) 7 15
    ∷ unlisted_block 21142 1 (0x85 ∷ 0x00 ∷ 0x06 ∷ 0x00 ∷ 0x00 ∷ 0x40 ∷ []) 6 14
    -- type 1: capabilities 0x7800 with advertisements 0x01E0 and 0x03E0; one reset byte
    ∷ phy_block 21140 2 (0x8C ∷ 0x01 ∷ 0x00 ∷ 0x00 ∷ 0x00 ∷ 0x00 ∷ 0x78 ∷ 0xE0 ∷ 0x01 ∷ replicate 4 0) 13 0x7800 false
    ∷ unlisted_block 21140 2 (0x8C ∷ 0x01 ∷ 0x00 ∷ 0x00 ∷ 0x00 ∷ 0x00 ∷ 0x78 ∷ 0xE0 ∷ 0x03 ∷ replicate 4 0) 13 17
    ∷ phy_block 21140 2 (0x8D ∷ 0x01 ∷ 0x00 ∷ 0x00 ∷ 0x01 ∷ 0x00 ∷ 0x34 ∷ 0xF8 ∷ replicate 6 0) 14 0xF834 true
    ∷ unlisted_block 21140 2 (0x8C ∷ 0x01 ∷ 0x00 ∷ 0xFF ∷ replicate 9 0) 13 15
    -- type 2: length 6, or 12 with EXT
    ∷ medium_block 21142 3 (0x86 ∷ 0x02 ∷ 0x00 ∷ replicate 4 0) 7 0 false false
    ∷ medium_block 21145 6 (0x8C ∷ 0x02 ∷ 0x41 ∷ replicate 10 0) 13 1 false false
    ∷ unlisted_block 21143 3 (0x86 ∷ 0x02 ∷ 0x40 ∷ replicate 4 0) 7 15
    ∷ unlisted_block 21143 3 (0x86 ∷ 0x02 ∷ 0x80 ∷ replicate 4 0) 7 16
    ∷ unlisted_block 21143 2 (0x86 ∷ 0x02 ∷ 0x80 ∷ replicate 4 0) 7 0
    -- type 3: one word of g and one of r
    ∷ phy_block 21142 4 (0x91 ∷ 0x03 ∷ 0x00 ∷ 0x01 ∷ 0x00 ∷ 0x00 ∷ 0x01 ∷ 0x00 ∷ 0x00 ∷ 0x12 ∷ 0x08 ∷ replicate 7 0) 18 0x0812 true
    ∷ unlisted_block 21142 4 (0x90 ∷ 0x03 ∷ 0x00 ∷ 0x01 ∷ 0x00 ∷ 0x00 ∷ 0x01 ∷ replicate 10 0) 17 15
    -- type 4
    ∷ medium_block 21143 5 (0x88 ∷ 0x04 ∷ 0x03 ∷ 0x00 ∷ 0x00 ∷ 0x00 ∷ 0x00 ∷ 0x00 ∷ 0x7F ∷ []) 9 3 false true
    ∷ unlisted_block 21143 5 (0x88 ∷ 0x04 ∷ 0x04 ∷ replicate 6 0) 9 16
    ∷ unlisted_block 21142 5 (0x88 ∷ 0x04 ∷ 0x03 ∷ replicate 6 0) 9 14
    -- type 5: its length is that of its count
    ∷ unlisted_block 21142 6 (0x84 ∷ 0x05 ∷ 0x01 ∷ 0x00 ∷ 0x00 ∷ []) 5 0
    ∷ unlisted_block 21143 6 (0x83 ∷ 0x05 ∷ 0x00 ∷ 0x00 ∷ []) 4 15
    ∷ unlisted_block 21143 6 (0x82 ∷ 0x05 ∷ 0x01 ∷ []) 3 15
    -- type 6: its length is that of its count, also on the 21145; not judged below level 7
    ∷ power_block 21143 7 (0x83 ∷ 0x06 ∷ 0xFF ∷ 0x00 ∷ []) 4
    ∷ power_block 21145 7 (0x87 ∷ 0x06 ∷ 0x01 ∷ 0x02 ∷ replicate 4 0) 8
    ∷ unlisted_block 21143 6 (0x83 ∷ 0x06 ∷ 0xFF ∷ 0x00 ∷ []) 4 0
    ∷ unlisted_block 21143 7 (0x83 ∷ 0x06 ∷ 0x01 ∷ 0x01 ∷ []) 4 15
    ∷ unlisted_block 21143 7 (0x84 ∷ 0x06 ∷ 0x01 ∷ 0x00 ∷ 0x00 ∷ []) 5 15
    ∷ unlisted_block 21143 7 (0x82 ∷ 0x06 ∷ 0x01 ∷ []) 3 15
    ∷ unlisted_block 21143 7 (0x81 ∷ 0x06 ∷ []) 2 15
    ∷ unlisted_block 21142 7 (0x83 ∷ 0x06 ∷ 0x01 ∷ 0x00 ∷ []) 4 14
    ∷ unlisted_block 21140 7 (0x83 ∷ 0x06 ∷ 0x01 ∷ 0x00 ∷ []) 4 14
    ∷ unlisted_block 21142 6 (0x81 ∷ 0x06 ∷ []) 2 0
    -- length 0; unknown types of every length, unjudged; and the end of the rest
    ∷ unlisted_block 21143 0 (0x80 ∷ []) 1 14
    ∷ unlisted_block 21143 6 (0x81 ∷ 0x09 ∷ []) 2 0
    ∷ unlisted_block 21143 6 (0xDA ∷ 0x09 ∷ replicate 89 0) 91 0
    ∷ unlisted_block 21143 6 (0xDB ∷ 0x09 ∷ replicate 89 0) 92 13
    ∷ []
