-- Cases a to k of document 01, 'Blocks to prove', as whole images, read and walked, and cards with a power block and under fixed
-- types. Cases a to j are those of crate `leaf`.
use Rattle.std.specs.Prelude.{ℕ, zero, suc, ◌+◌, ◌-◌, ◌*◌, ◌/◌, ◌%◌, List, [], ◌∷◌, ◌++◌, map, Bool, true, false, take, drop}
use Rattle.std.specs.Prelude.{replicate, set}
use Rattle.rom.specs.declared.Layout.{Layout}
use Rattle.rom.specs.Geometry.{without_magic, with_magic, large, image_length, checked_length, controllers_at, none}
use Rattle.rom.specs.Bytes.{pick}
use Rattle.rom.specs.Refusal.{first_met}
use Rattle.checksum.specs.Crc.{srom_crc, id_crc}
use Rattle.packet.specs.Cases.{whole_block, other_crc, stray_last}
use Rattle.format.specs.Chips.{the_later_edition}
use Rattle.image.specs.declared.Arguments.{Arguments}
use Rattle.leaf.specs.Cases as leaves
use Rattle.reader.specs.declared.Answer.{Answer}
use Rattle.reader.specs.Reading.{judge_causes}
use Rattle.sheet.specs.Image.{newest}
use Rattle.walk.specs.Walk.{fresh_walk}
use Rattle.older.specs.Calls.{Call, load, look, fresh, loaded, After, run}
use Rattle.older.specs.Written.{Arrays, TableEntry, answer_of, table_in}

-- ## A whole image

-- so many controllers with device number 0 and one leaf
unfoldable pub sharing : ℕ → ℕ → List ℕ
sharing zero start = []
sharing (suc n) start = 0 ∷ start % 256 ∷ start / 256 ∷ sharing n start

-- the bytes before the SROM CRC: an ID block of zeros with this CRC, version 4, so many controllers with addresses from 0 on
-- that share a leaf, which starts there, and zeros elsewhere
unfoldable pub unsealed_at : Layout → ℕ → ℕ → ℕ → List ℕ → List ℕ
unsealed_at l id_crc controllers start leaf =
    take (checked_length l)
    (replicate 16 0 ++ (id_crc ∷ 0 ∷ 4 ∷ controllers ∷ replicate 6 0) ++ sharing controllers start
    ++ replicate (start - (controllers_at + 3 * controllers)) 0 ++ leaf ++ replicate (image_length l.size) 0)

-- one controller with its leaf at 30
unfoldable pub unsealed : Layout → ℕ → List ℕ → List ℕ
unsealed l id_crc leaf = unsealed_at l id_crc 1 30 leaf

-- the SROM CRC behind them
unfoldable pub sealed : Layout → List ℕ → List ℕ
sealed l bytes = let crc = srom_crc l bytes in bytes ++ crc % 256 ∷ crc / 256 ∷ []

-- a Magic Packet block where there is one
unfoldable pub behind_board : Layout → List ℕ
behind_board l = pick l.magic whole_block []

-- an image with its CRCs
unfoldable pub image_with : Layout → List ℕ → List ℕ
image_with l leaf = sealed l (unsealed l (id_crc (unsealed l 0 leaf)) leaf) ++ behind_board l

-- ## A case: a layout, a chip, a level, a leaf, and what is read of it; and calls, with what is seen after each

pub record ImageCase : Type 0 where
  pub layout : Layout
  pub reading : leaves.LeafCase
  pub calls : List Call
  pub seen : List After

unfoldable pub arguments_of : Layout → leaves.LeafCase → Arguments
arguments_of l c = record { chip = c.chip; controller = 0; level = c.level; layout = l; first_edition = the_later_edition }

-- lent arrays, longer than any case needs
abbrev pub room : Arrays
room = record { kinds = replicate 8 0; offsets = replicate 8 0 }

-- a case's chip, level and leaf, with what is answered and the table
abbrev pub answered_with : Answer → List TableEntry → leaves.LeafCase → leaves.LeafCase
answered_with answer table c =
    record {
      chip = c.chip;
      level = c.level;
      leaf = c.leaf;
      number = answer.number;
      listed = answer.listed;
      resets = answer.resets;
      skipped = answer.skipped;
      power = answer.power;
      kinds = map (λ e. e.kind) table;
      starts = map (λ e. e.start) table;
    }

unfoldable pub read_whole : List ℕ → Arguments → Arrays → leaves.LeafCase → leaves.LeafCase
read_whole image a room c = let answer = answer_of image a room in
    let table = table_in image a room in
    answered_with answer table c

unfoldable pub worked : ImageCase → ImageCase
worked c =
    let image = image_with c.layout c.reading.leaf in
    let a = arguments_of c.layout c.reading in
    record {
      layout = c.layout;
      reading = read_whole image a room c.reading;
      calls = c.calls;
      seen = run image a fresh_walk c.calls;
    }

-- ## The cases

abbrev read : Layout → leaves.LeafCase → ImageCase
read l c = record { layout = l; reading = c; calls = []; seen = [] }

-- the leaf of b under a connection type, low byte first
abbrev leaf_under : ℕ → List ℕ
leaf_under connection = connection % 256 ∷ connection / 256 ∷ drop 2 (leaves.leaf_b 0)

-- read as b is, and walked with reports 000, 101, 100
abbrev walked : Layout → ℕ → List After → ImageCase
walked l connection seen = record {
  layout = l;
  reading = leaves.accepted 21143 6 (leaf_under connection) 2 0 1 (2 ∷ 2 ∷ []) (42 ∷ 33 ∷ []);
  calls = load ∷ look (0 ∷ 0 ∷ 0 ∷ []) ∷ look (1 ∷ 0 ∷ 1 ∷ []) ∷ look (1 ∷ 0 ∷ 0 ∷ []) ∷ [];
  seen = seen;
}

-- accepted, and then settled, selected, looks, switches
abbrev pub then : Bool → ℕ → ℕ → ℕ → After
then settled selected looks switches = record { number = 0; walk = loaded settled selected looks switches }

-- refused, and still fresh
abbrev still_fresh : ℕ → After
still_fresh number = record { number = number; walk = fresh }

-- k, and under 0x8800 and 0xFFFF
abbrev case_k : Layout → List ImageCase
case_k l =
    walked l 0x0800 (then false none 0 0 ∷ then false none 1 0 ∷ then true 2 2 1 ∷ then true 0 3 2 ∷ [])
    ∷ walked l 0x8800 (then false none 0 0 ∷ then false none 1 0 ∷ then true 2 2 1 ∷ then true 2 3 1 ∷ [])
    ∷ walked l 0xFFFF (then false none 0 0 ∷ then false none 1 0 ∷ then true 2 2 1 ∷ then true 2 3 1 ∷ [])
    ∷ []

-- a to k
unfoldable pub image_cases : List ImageCase
image_cases = map (read without_magic) leaves.paper_cases ++ case_k without_magic

-- a and k before a Magic Packet block, and j, whose block may end at byte 91 there and no later
unfoldable pub magic_image_cases : List ImageCase
magic_image_cases =
    map (read with_magic) (take 1 leaves.paper_cases) ++ case_k with_magic
    ++ read with_magic (leaves.accepted 21143 6 (0x00 ∷ 0x08 ∷ 0x01 ∷ 0xBA ∷ 0x09 ∷ replicate 57 0) 0 0 1 [] [])
    ∷ read with_magic (leaves.refused 21143 6 (0x00 ∷ 0x08 ∷ 0x01 ∷ 0xBB ∷ 0x09 ∷ replicate 58 0) 13)
    ∷ []

-- a card with a power block, block 1: a link there is none, and the default is selected
unfoldable pub power_image_cases : List ImageCase
power_image_cases =
    record {
      layout = without_magic;
      reading = leaves.powered 21143 7 leaves.leaf_between 2 0 0 1 (2 ∷ 4 ∷ []) (46 ∷ 33 ∷ []);
      calls = load ∷ look (0 ∷ 1 ∷ 0 ∷ []) ∷ look (1 ∷ 1 ∷ 1 ∷ []) ∷ [];
      seen = then false none 0 0 ∷ then false 0 1 1 ∷ then true 2 2 2 ∷ [];
    }
    ∷ []

-- a block of type 2 between two power blocks with a mode in common
abbrev leaf_repeated : List ℕ
leaf_repeated =
    (0x00 ∷ 0x08 ∷ 0x03 ∷ 0x83 ∷ 0x06 ∷ 0x01 ∷ 0x00 ∷ []) ++ (0x86 ∷ 0x02 ∷ 0x00 ∷ 0x01 ∷ 0x00 ∷ 0x02 ∷ 0x00 ∷ [])
    ++ 0x83 ∷ 0x06 ∷ 0x03 ∷ 0x00 ∷ []

-- loaded, and looked at with a link at block 1
abbrev link_at_one : leaves.LeafCase → List After → ImageCase
link_at_one reading seen = record {
  layout = without_magic;
  reading = reading;
  calls = load ∷ look (0 ∷ 1 ∷ 0 ∷ []) ∷ [];
  seen = seen;
}

-- refused with 31 at level 7, and read and walked at level 6, and at level 2, where nothing is listed
unfoldable pub repeated_image_cases : List ImageCase
repeated_image_cases =
    link_at_one (leaves.refused 21143 7 leaf_repeated 31) (still_fresh 31 ∷ still_fresh 20 ∷ [])
    ∷ link_at_one (leaves.accepted 21143 6 leaf_repeated 1 0 2 (2 ∷ []) (37 ∷ [])) (then false none 0 0 ∷ then true 1 1 1 ∷ [])
    ∷ link_at_one (leaves.accepted 21143 2 leaf_repeated 0 0 3 [] []) (then false none 0 0 ∷ then false none 1 0 ∷ [])
    ∷ []

-- ## An older level

-- a block of type 2 and one of type 4, under a connection type
abbrev leaf_newer : ℕ → List ℕ
leaf_newer connection =
    connection % 256 ∷ connection / 256 ∷ 0x02 ∷ 0x86 ∷ 0x02 ∷ 0x00 ∷ 0x01 ∷ 0x00 ∷ 0x02 ∷ 0x00
    ∷ 0x88 ∷ 0x04 ∷ 0x03 ∷ 0x00 ∷ 0x00 ∷ 0x00 ∷ 0x00 ∷ 0x00 ∷ 0x00 ∷ []

-- walked with reports 10 and 00: block 0, and what comes then
abbrev walked_twice : Layout → leaves.LeafCase → After → ImageCase
walked_twice l reading last = record {
  layout = l;
  reading = reading;
  calls = load ∷ look (1 ∷ 0 ∷ []) ∷ look (0 ∷ 0 ∷ []) ∷ [];
  seen = then false none 0 0 ∷ then true 0 1 1 ∷ last ∷ [];
}

-- at level 7, and at level 4, which does not know type 4: its entry is removed, and the walks are alike
abbrev both_levels : Layout → ℕ → After → List ImageCase
both_levels l connection last =
    walked_twice l (leaves.accepted 21143 7 (leaf_newer connection) 2 0 0 (4 ∷ 2 ∷ []) (40 ∷ 33 ∷ [])) last
    ∷ walked_twice l (leaves.accepted 21143 4 (leaf_newer connection) 1 0 1 (2 ∷ []) (33 ∷ [])) last
    ∷ []

-- with an empty connection word, before a Magic Packet block, and of 512 bytes
unfoldable pub older_cases : List ImageCase
older_cases =
    both_levels without_magic 0xFFFF (then true 0 2 1)
    ++ both_levels with_magic 0x0800 (then true none 2 2)
    ++ both_levels (large without_magic) 0x0800 (then true none 2 2)
    ++ both_levels (large with_magic) 0x0800 (then true none 2 2)

-- ## Fixed types

-- refused with a number, and then settled, selected, looks, switches
abbrev pub refused_then : ℕ → Bool → ℕ → ℕ → ℕ → After
refused_then number settled selected looks switches = record { number = number; walk = loaded settled selected looks switches }

-- loaded first
abbrev under_fixed : leaves.LeafCase → List Call → List After → ImageCase
under_fixed reading calls seen = record {
  layout = without_magic;
  reading = reading;
  calls = load ∷ calls;
  seen = then false none 0 0
      ∷ seen;
}

-- 10BaseT in a compact block and in one of type 0
abbrev leaf_twice : List ℕ
leaf_twice = 0x00 ∷ 0x00 ∷ 0x1F ∷ 0x02 ∷ (0x00 ∷ replicate 3 0) ++ 0x85 ∷ 0x00 ∷ 0x00 ∷ replicate 3 0

-- cards under fixed types: the first in table order that has the medium, whatever is up, and 19 as ever; at another level
-- another block, where the first is unknown; and a card without the medium
unfoldable pub fixed_image_cases : List ImageCase
fixed_image_cases =
    under_fixed
    (leaves.accepted 21143 7
    ((0x03 ∷ 0x00 ∷ 0x03 ∷ []) ++ (0x88 ∷ 0x04 ∷ 0x03 ∷ replicate 6 0) ++ (0x88 ∷ 0x04 ∷ 0x03 ∷ replicate 6 0)
    ++ 0x86 ∷ 0x02 ∷ 0x00 ∷ replicate 4 0) 3 0 0 (2 ∷ 4 ∷ 4 ∷ []) (51 ∷ 42 ∷ 33 ∷ []))
    (look (0 ∷ 0 ∷ 0 ∷ []) ∷ look (1 ∷ 0 ∷ 1 ∷ []) ∷ look (0 ∷ 1 ∷ 2 ∷ []) ∷ [])
    (then true 1 1 1 ∷ then true 1 2 1 ∷ refused_then 19 true 1 2 1 ∷ [])
    ∷ under_fixed (leaves.accepted 21140 7 leaf_twice 2 0 0 (0 ∷ 256 ∷ []) (38 ∷ 34 ∷ [])) (look (1 ∷ 0 ∷ []) ∷ []) (then true 1 1 1 ∷ [])
    ∷ under_fixed (leaves.accepted 21140 0 leaf_twice 1 0 1 (256 ∷ []) (34 ∷ [])) (look (1 ∷ 0 ∷ []) ∷ []) (then true 0 1 1 ∷ [])
    ∷ under_fixed (leaves.accepted 21143 7 (0x10 ∷ 0x00 ∷ 0x01 ∷ 0x86 ∷ 0x02 ∷ 0x00 ∷ replicate 4 0) 1 0 0 (2 ∷ []) (33 ∷ []))
    (look (1 ∷ []) ∷ look [] ∷ []) (refused_then 32 false none 0 0 ∷ refused_then 32 false none 0 0 ∷ [])
    ∷ []

-- ## The order of an image's causes, with a Magic Packet block

-- case a's board with a byte set and its SROM CRC, a block behind it, and the newest reader's number
pub record OrderCase : Type 0 where
  pub at : ℕ
  pub value : ℕ
  pub block : List ℕ
  pub number : ℕ

abbrev pub leaf_a : List ℕ
leaf_a = 0x00 ∷ 0x08 ∷ 0x01 ∷ 0x86 ∷ 0x02 ∷ 0x00 ∷ 0x01 ∷ 0x00 ∷ 0x02 ∷ 0x00 ∷ []

unfoldable pub order : OrderCase → OrderCase
order c =
    let board = set (unsealed with_magic (id_crc (unsealed with_magic 0 leaf_a)) leaf_a) c.at c.value in
    record {
      at = c.at;
      value = c.value;
      block = c.block;
      number = first_met (judge_causes (sealed with_magic board ++ c.block) (newest with_magic 21143));
    }

abbrev set_to : ℕ → ℕ → List ℕ → ℕ → OrderCase
set_to at value block number = record { at = at; value = value; block = block; number = number }

unfoldable pub order_cases : List OrderCase
order_cases =
    -- version 4; another CRC of the block, and a byte behind it
    set_to 18 4 whole_block 0
    ∷ set_to 18 4 other_crc 29
    ∷ set_to 18 4 stray_last 30
    -- 2 and 4 come before 29
    ∷ set_to 18 5 other_crc 2
    ∷ set_to 0 1 other_crc 4
    -- 29 and 30 before 5: 21 controllers, where 20 pass and leave no room for a leaf at 30
    ∷ set_to 19 21 other_crc 29
    ∷ set_to 19 21 stray_last 30
    ∷ set_to 19 21 whole_block 5
    ∷ set_to 19 20 whole_block 10
    ∷ []
