-- Cases a to j of document 01, 'Blocks to prove', and others on its rules, over the definitions; power blocks (document 02, request
-- 3); blocks of version 1 (request 12); and where blocks start (request 2).
use Rattle.std.specs.Prelude.{ℕ, suc, ◌-◌, List, [], ◌∷◌, ◌++◌, map, Bool, eqb, take, drop, replicate}
use Rattle.rom.specs.Geometry.{small_size, without_magic, leaves_end}
use Rattle.rom.specs.Bytes.{pick, byte_at}
use Rattle.format.specs.Block.{the_later_version}
use Rattle.format.specs.Chips.{row_of, row21140}
use Rattle.leaf.specs.Leaf.{cut, start_by_stepping, running_start, table_of, kind_at, start_at}
use Rattle.leaf.specs.Tally.{tally_of}

-- a chip, a level, a leaf's bytes from byte 30 of the image on, and what is answered: the refusal's number, how many blocks
-- are listed, resets, skipped and power, and the table's kinds and starts; 0 and empty where the leaf is refused
pub record LeafCase : Type 0 where
  pub chip : ℕ
  pub level : ℕ
  pub leaf : List ℕ
  pub number : ℕ
  pub listed : ℕ
  pub resets : ℕ
  pub skipped : ℕ
  pub power : ℕ
  pub kinds : List ℕ
  pub starts : List ℕ

-- ## How a case is run

-- an image with the leaf at 30, and zeros elsewhere
unfoldable pub image_around : List ℕ → List ℕ
image_around leaf = take small_size (replicate 30 0 ++ leaf ++ replicate small_size 0)

-- the first block stands behind the connection type, for the 21140 the control byte, and the block count
unfoldable pub first_block_at : ℕ → ℕ
first_block_at row = pick (eqb row row21140) 34 33

-- the leaf's rest from its first block on, of an image without a Magic Packet block
unfoldable pub blocks_of : ℕ → List ℕ → List ℕ
blocks_of row image = take (leaves_end without_magic - first_block_at row) (drop (first_block_at row) image)

-- in version 1, if it is that
unfoldable pub run_in : Bool → LeafCase → LeafCase
run_in first c =
    let row = row_of c.chip in
    let image = image_around c.leaf in
    let count = byte_at image (first_block_at row - 1) in
    let blocks = blocks_of row image in
    let tally = tally_of first row c.level (cut row count blocks) in
    let table = pick (eqb tally.number 0) (table_of row c.level count (first_block_at row) blocks) [] in
    record {
      chip = c.chip;
      level = c.level;
      leaf = c.leaf;
      number = tally.number;
      listed = tally.listed;
      resets = tally.resets;
      skipped = tally.skipped;
      power = tally.power;
      kinds = map (kind_at row) table;
      starts = map start_at table;
    }

abbrev pub run_leaf : LeafCase → LeafCase
run_leaf c = run_in the_later_version c

-- ## The cases

abbrev pub powered : ℕ → ℕ → List ℕ → ℕ → ℕ → ℕ → ℕ → List ℕ → List ℕ → LeafCase
powered chip level leaf listed resets skipped power kinds starts =
    record {
      chip = chip;
      level = level;
      leaf = leaf;
      number = 0;
      listed = listed;
      resets = resets;
      skipped = skipped;
      power = power;
      kinds = kinds;
      starts = starts;
    }

-- without power blocks
abbrev pub accepted : ℕ → ℕ → List ℕ → ℕ → ℕ → ℕ → List ℕ → List ℕ → LeafCase
accepted chip level leaf listed resets skipped kinds starts = powered chip level leaf listed resets skipped 0 kinds starts

abbrev pub refused : ℕ → ℕ → List ℕ → ℕ → LeafCase
refused chip level leaf number =
    record {
      chip = chip;
      level = level;
      leaf = leaf;
      number = number;
      listed = 0;
      resets = 0;
      skipped = 0;
      power = 0;
      kinds = [];
      starts = [];
    }

abbrev dots : ℕ → List ℕ
dots n = replicate n 0

-- case b under a connection type with this high byte
abbrev pub leaf_b : ℕ → List ℕ
leaf_b high = 0x00 ∷ high ∷ 0x03 ∷ 0x86 ∷ 0x02 ∷ 0x00 ∷ 0x01 ∷ 0x00 ∷ 0x02 ∷ 0x00 ∷ 0x81 ∷ 0x09 ∷ 0x86 ∷ 0x02 ∷ 0x01 ∷ 0x01 ∷ 0x00 ∷ 0x02
    ∷ 0x00 ∷ []

abbrev pub case_b : ℕ → LeafCase
case_b high = accepted 21143 6 (leaf_b high) 2 0 1 (2 ∷ 2 ∷ []) (42 ∷ 33 ∷ [])

-- a type 1 block with capabilities 0x7800 and this advertisement, low byte first
abbrev leaf_h : ℕ → ℕ → List ℕ
leaf_h low high = 0x00 ∷ 0x08 ∷ 0x00 ∷ 0x01 ∷ 0x8C ∷ 0x01 ∷ 0x00 ∷ 0x00 ∷ 0x00 ∷ 0x00 ∷ 0x78 ∷ low ∷ high ∷ dots 4

abbrev leaf_i : List ℕ
leaf_i = 0x00 ∷ 0x08 ∷ 0x02 ∷ 0x82 ∷ 0x05 ∷ 0x00 ∷ 0x82 ∷ 0x05 ∷ 0x00 ∷ []

-- a type 5 block and this PHY block
abbrev leaf_reset : List ℕ → List ℕ
leaf_reset phy = 0x00 ∷ 0x08 ∷ 0x02 ∷ 0x82 ∷ 0x05 ∷ 0x00 ∷ phy

-- two compact blocks with media codes 0 and 3 and these high bytes of their commands
abbrev leaf_ports : ℕ → ℕ → List ℕ
leaf_ports first second = 0x00 ∷ 0x08 ∷ 0x00 ∷ 0x02 ∷ 0x00 ∷ 0x00 ∷ 0x00 ∷ first ∷ 0x03 ∷ 0x00 ∷ 0x00 ∷ second ∷ []

-- cases a to j of document 01, 'Blocks to prove'; h and j twice
unfoldable pub paper_cases : List LeafCase
paper_cases =
    -- a, b, c
    accepted 21143 6 (0x00 ∷ 0x08 ∷ 0x01 ∷ 0x86 ∷ 0x02 ∷ 0x00 ∷ 0x01 ∷ 0x00 ∷ 0x02 ∷ 0x00 ∷ []) 1 0 0 (2 ∷ []) (33 ∷ [])
    ∷ case_b 0x08
    ∷ accepted 21143 2 (leaf_b 0x08) 0 0 3 [] []
    -- d, e, f, g
    ∷ refused 21143 6 (0x00 ∷ 0x08 ∷ 0x01 ∷ 0x80 ∷ []) 14
    ∷ refused 21143 6 (0x00 ∷ 0x08 ∷ 0x01 ∷ 0x85 ∷ 0x02 ∷ dots 4) 15
    ∷ refused 21143 6 (0x00 ∷ 0x08 ∷ 0x01 ∷ 0x86 ∷ 0x02 ∷ 0x40 ∷ dots 4) 15
    ∷ refused 21143 6 (0x00 ∷ 0x08 ∷ 0x01 ∷ dots 4) 14
    -- h twice, i, j twice
    ∷ accepted 21140 6 (leaf_h 0xE0 0x01) 1 0 0 (1 ∷ []) (34 ∷ [])
    ∷ refused 21140 6 (leaf_h 0xE0 0x03) 17
    ∷ refused 21143 6 leaf_i 18
    ∷ accepted 21143 6 (0x00 ∷ 0x08 ∷ 0x01 ∷ 0xDA ∷ 0x09 ∷ dots 89) 0 0 1 [] []
    ∷ refused 21143 6 (0x00 ∷ 0x08 ∷ 0x01 ∷ 0xDB ∷ 0x09 ∷ dots 90) 13
    ∷ []

-- points that document 01 leaves to its rules (docs/DECISIONS.md, 'Reading')
unfoldable pub further_cases : List LeafCase
further_cases =
    -- no blocks, and no known type
    accepted 21143 6 (0x00 ∷ 0x08 ∷ 0x00 ∷ []) 0 0 0 [] []
    ∷ accepted 21143 0 (leaf_b 0x08) 0 0 3 [] []
    -- 13 comes before 14: a compact block at 121, and a type that the chip does not permit
    ∷ refused 21143 6 (0x00 ∷ 0x08 ∷ 0x02 ∷ 0xD7 ∷ 0x09 ∷ dots 86 ++ 0x00 ∷ 0x00 ∷ 0x00 ∷ []) 13
    ∷ refused 21143 6 (0x00 ∷ 0x08 ∷ 0x01 ∷ 0xDB ∷ 0x00 ∷ dots 90) 13
    -- length 0 as the leaf's last byte
    ∷ refused 21143 6 (0x00 ∷ 0x08 ∷ 0x02 ∷ 0xD9 ∷ 0x09 ∷ dots 88 ++ 0x80 ∷ []) 14
    -- g past the block's end, and g outside the block, which ends at 123
    ∷ refused 21140 6 (0x00 ∷ 0x08 ∷ 0x00 ∷ 0x01 ∷ 0x8C ∷ 0x01 ∷ 0x00 ∷ 0xFF ∷ dots 9) 15
    ∷ refused 21140 6 (0x00 ∷ 0x08 ∷ 0x00 ∷ 0x02 ∷ 0xD6 ∷ 0x09 ∷ dots 85 ++ 0x82 ∷ 0x01 ∷ 0x00 ∷ []) 15
    -- a 21041 block, one with six bytes more, and one with its reserved bit
    ∷ accepted 21041 6 (0x00 ∷ 0x08 ∷ 0x02 ∷ 0x41 ∷ dots 6 ++ 0x02 ∷ []) 2 0 0 (257 ∷ 257 ∷ []) (40 ∷ 33 ∷ [])
    ∷ refused 21041 6 (0x00 ∷ 0x08 ∷ 0x01 ∷ 0x80 ∷ []) 16
    -- 18: defaults, and resets with a PHY block; only among known blocks
    ∷ accepted 21140 6 (leaf_ports 0x40 0x00) 2 0 0 (256 ∷ 256 ∷ []) (38 ∷ 34 ∷ [])
    ∷ refused 21140 6 (leaf_ports 0x40 0x40) 18
    ∷ accepted 21140 6 (leaf_ports 0x40 0xC0) 2 0 0 (256 ∷ 256 ∷ []) (38 ∷ 34 ∷ [])
    ∷ refused 21143 6 (leaf_reset (0x8F ∷ 0x03 ∷ 0x00 ∷ 0x00 ∷ 0x01 ∷ dots 11)) 18
    ∷ accepted 21143 6 (leaf_reset (0x8D ∷ 0x03 ∷ 0x00 ∷ 0x00 ∷ 0x00 ∷ dots 9)) 1 1 0 (3 ∷ []) (36 ∷ [])
    ∷ accepted 21143 5 leaf_i 0 0 2 [] []
    ∷ []

-- ## Power blocks

-- two power blocks with these modes
abbrev leaf_modes : ℕ → ℕ → List ℕ
leaf_modes first second = 0x00 ∷ 0x08 ∷ 0x02 ∷ 0x83 ∷ 0x06 ∷ first ∷ 0x00 ∷ 0x83 ∷ 0x06 ∷ second ∷ 0x00 ∷ []

-- a SYM medium that is the default
abbrev sym_default : List ℕ
sym_default = 0x88 ∷ 0x04 ∷ 0x03 ∷ 0x00 ∷ 0x00 ∷ 0x00 ∷ 0x00 ∷ 0x00 ∷ 0x40 ∷ []

-- two power blocks with a mode in common, and two defaults
abbrev leaf_clashes : List ℕ
leaf_clashes = 0x00 ∷ 0x08 ∷ 0x04 ∷ 0x83 ∷ 0x06 ∷ 0x01 ∷ 0x00 ∷ 0x83 ∷ 0x06 ∷ 0x01 ∷ 0x00 ∷ sym_default ++ sym_default

-- a power block between media
abbrev pub leaf_between : List ℕ
leaf_between = 0x00 ∷ 0x08 ∷ 0x03 ∷ sym_default ++ 0x83 ∷ 0x06 ∷ 0x01 ∷ 0x00 ∷ 0x86 ∷ 0x02 ∷ dots 5

-- document 02, request 3
unfoldable pub power_cases : List LeafCase
power_cases =
    -- g 0 and g 2
    powered 21143 7 (0x00 ∷ 0x08 ∷ 0x01 ∷ 0x83 ∷ 0x06 ∷ 0x01 ∷ 0x00 ∷ []) 0 0 0 1 [] []
    ∷ powered 21143 7 (0x00 ∷ 0x08 ∷ 0x01 ∷ 0x87 ∷ 0x06 ∷ 0x01 ∷ 0x02 ∷ dots 4) 0 0 0 1 [] []
    -- no bit set twice; no bit at all; a bit set twice, which level 6 does not see; a reserved one; on the 21145
    ∷ powered 21143 7 (leaf_modes 0x01 0x0E) 0 0 0 2 [] []
    ∷ powered 21143 7 (leaf_modes 0x00 0x00) 0 0 0 2 [] []
    ∷ refused 21143 7 (leaf_modes 0x03 0x02) 31
    ∷ accepted 21143 6 (leaf_modes 0x03 0x02) 0 0 2 [] []
    ∷ refused 21143 7 (leaf_modes 0x81 0x80) 31
    ∷ refused 21145 7 (leaf_modes 0x03 0x02) 31
    -- the first and the third, and a block refused behind them, which comes first
    ∷ refused 21143 7 (0x00 ∷ 0x08 ∷ 0x03 ∷ 0x83 ∷ 0x06 ∷ 0x01 ∷ 0x00 ∷ 0x83 ∷ 0x06 ∷ 0x02 ∷ 0x00 ∷ 0x83 ∷ 0x06 ∷ 0x09 ∷ 0x00 ∷ []) 31
    ∷ refused 21143 7 (0x00 ∷ 0x08 ∷ 0x03 ∷ 0x83 ∷ 0x06 ∷ 0x01 ∷ 0x00 ∷ 0x83 ∷ 0x06 ∷ 0x01 ∷ 0x00 ∷ 0x80 ∷ []) 14
    -- two defaults and a bit set twice
    ∷ refused 21143 7 leaf_clashes 18
    -- the 21142 has none
    ∷ refused 21142 7 (leaf_modes 0x01 0x02) 14
    ∷ accepted 21142 6 (leaf_modes 0x01 0x02) 0 0 2 [] []
    -- length 3 with g 1, and length 2
    ∷ refused 21143 7 (0x00 ∷ 0x08 ∷ 0x01 ∷ 0x83 ∷ 0x06 ∷ 0x01 ∷ 0x01 ∷ []) 15
    ∷ refused 21143 7 (0x00 ∷ 0x08 ∷ 0x01 ∷ 0x82 ∷ 0x06 ∷ 0x01 ∷ []) 15
    -- not listed, where the blocks around it are
    ∷ powered 21143 7 leaf_between 2 0 0 1 (2 ∷ 4 ∷ []) (46 ∷ 33 ∷ [])
    ∷ accepted 21143 6 leaf_between 2 0 1 (2 ∷ 4 ∷ []) (46 ∷ 33 ∷ [])
    ∷ []

-- ## The first version

-- a compact block with media code 0 and this one behind it
abbrev leaf_behind : List ℕ → List ℕ
leaf_behind block = 0x00 ∷ 0x08 ∷ 0x00 ∷ 0x02 ∷ 0x00 ∷ 0x00 ∷ 0x00 ∷ 0x00 ∷ block

-- document 02, request 12
unfoldable pub first_cases : List LeafCase
first_cases =
    -- compact and 21041 blocks are judged as ever
    accepted 21140 7 (leaf_ports 0x40 0x00) 2 0 0 (256 ∷ 256 ∷ []) (38 ∷ 34 ∷ [])
    ∷ refused 21140 7 (leaf_ports 0x40 0x40) 18
    ∷ accepted 21041 7 (0x00 ∷ 0x08 ∷ 0x02 ∷ 0x41 ∷ dots 6 ++ 0x02 ∷ []) 2 0 0 (257 ∷ 257 ∷ []) (40 ∷ 33 ∷ [])
    -- extended ones get 14 at every level: a type that the level knows, one that it does not, one that no level does, length 0
    ∷ refused 21140 7 (leaf_behind (0x85 ∷ 0x00 ∷ dots 4)) 14
    ∷ refused 21140 0 (leaf_behind (0x85 ∷ 0x00 ∷ dots 4)) 14
    ∷ refused 21140 7 (leaf_behind (0x81 ∷ 0x09 ∷ [])) 14
    ∷ refused 21140 0 (leaf_behind (0x80 ∷ [])) 14
    -- after 13, and after what is refused of a block before
    ∷ refused 21140 0 (leaf_behind (0xD6 ∷ 0x09 ∷ dots 85)) 13
    ∷ refused 21140 0 (0x00 ∷ 0x08 ∷ 0x00 ∷ 0x02 ∷ 0x02 ∷ 0x00 ∷ 0x00 ∷ 0x00 ∷ 0x81 ∷ 0x09 ∷ []) 16
    -- the top bit opens no extended block on the 21041
    ∷ refused 21041 7 (0x00 ∷ 0x08 ∷ 0x01 ∷ 0x80 ∷ []) 16
    ∷ []

-- ## Where blocks start

-- a chip, its blocks' bytes, and where block 0, block 1 and so on start; the last is where they end
pub record StartsCase : Type 0 where
  pub chip : ℕ
  pub blocks : List ℕ
  pub starts : List ℕ

-- the start of block k by a rule, and of as many behind it as are asked for
unfoldable pub starts_from : (ℕ → ℕ) → ℕ → List ℕ → List ℕ
starts_from start k [] = []
starts_from start k (_ ∷ more) = start k ∷ starts_from start (suc k) more

unfoldable pub run_stepped : StartsCase → StartsCase
run_stepped c =
    let row = row_of c.chip in
    record {
      chip = c.chip;
      blocks = c.blocks;
      starts = starts_from (λ k. start_by_stepping row (first_block_at row) k c.blocks) 0 c.starts;
    }

-- in an image that has the blocks where the first one stands
unfoldable pub run_kept : StartsCase → StartsCase
run_kept c =
    let row = row_of c.chip in
    let image = replicate (first_block_at row) 0 ++ c.blocks in
    record {
      chip = c.chip;
      blocks = c.blocks;
      starts = starts_from (λ k. running_start row (first_block_at row) k image) 0 c.starts;
    }

abbrev starting : ℕ → List ℕ → List ℕ → StartsCase
starting chip blocks starts = record { chip = chip; blocks = blocks; starts = starts }

-- no block; type 2, an unknown type and type 5; 21041 blocks with EXT and without; compact blocks around an unknown type; one
-- block to where leaves end
unfoldable pub starts_cases : List StartsCase
starts_cases =
    starting 21143 ([]) (33 ∷ [])
    ∷ starting 21143 (0x86 ∷ 0x02 ∷ replicate 5 0 ++ 0x81 ∷ 0x09 ∷ 0x82 ∷ 0x05 ∷ 0x00 ∷ []) (33 ∷ 40 ∷ 42 ∷ 45 ∷ [])
    ∷ starting 21041 (0x41 ∷ replicate 6 0 ++ 0x02 ∷ 0x04 ∷ []) (33 ∷ 40 ∷ 41 ∷ 42 ∷ [])
    ∷ starting 21140 (replicate 4 0 ++ 0x81 ∷ 0x09 ∷ 0x03 ∷ replicate 3 0) (34 ∷ 38 ∷ 40 ∷ 44 ∷ [])
    ∷ starting 21143 (0xDA ∷ 0x09 ∷ replicate 89 0) (33 ∷ 124 ∷ [])
    ∷ []
