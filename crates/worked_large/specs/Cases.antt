-- Cards of 512 bytes, read and walked, and images of another length than their stated size (document 02, request 6).
use Rattle.std.specs.Prelude.{ℕ, ◌+◌, ◌-◌, List, [], ◌∷◌, ◌++◌, true, false, replicate}
use Rattle.rom.specs.declared.Layout.{Layout}
use Rattle.rom.specs.Geometry.{without_magic, with_magic, large, none}
use Rattle.rom.specs.Bytes.{values_from}
use Rattle.rom.specs.Refusal.{first_met}
use Rattle.checksum.specs.Crc.{id_crc}
use Rattle.checksum.specs.Answer.{srom_answer, id_answer, magic_answer}
use Rattle.packet.specs.Answer.{magic_read_number, magic_write_number}
use Rattle.format.specs.Chips.{the_later_edition}
use Rattle.image.specs.declared.Arguments.{Arguments}
use Rattle.leaf.specs.Cases as leaves
use Rattle.reader.specs.Reading.{judge_causes}
use Rattle.walk.specs.Walk.{fresh_walk}
use Rattle.older.specs.Calls.{Call, load, look, After, run}
use Rattle.older.specs.Written.{Arrays}
use Rattle.sheet.specs.Image.{newest}
use Rattle.worked.specs.Cases.{unsealed_at, sealed, behind_board, read_whole, then}

-- ## A card: a layout, controllers that share a leaf, where it starts; what is read for the last of them, and calls, with what
-- is seen after each

pub record CardCase : Type 0 where
  pub layout : Layout
  pub controllers : ℕ
  pub start : ℕ
  pub reading : leaves.LeafCase
  pub calls : List Call
  pub seen : List After

unfoldable pub card_with : Layout → ℕ → ℕ → List ℕ → List ℕ
card_with l controllers start leaf =
    sealed l (unsealed_at l (id_crc (unsealed_at l 0 controllers start leaf)) controllers start leaf) ++ behind_board l

-- lent arrays, as long as any leaf needs
abbrev pub every_block : Arrays
every_block = record { kinds = replicate 255 0; offsets = replicate 255 0 }

unfoldable pub read_card : CardCase → CardCase
read_card c =
    let image = card_with c.layout c.controllers c.start c.reading.leaf in
    let a : Arguments = record {
      chip = c.reading.chip;
      controller = c.controllers - 1;
      level = c.reading.level;
      layout = c.layout;
      first_edition = the_later_edition;
    } in
    record {
      layout = c.layout;
      controllers = c.controllers;
      start = c.start;
      reading = read_whole image a every_block c.reading;
      calls = c.calls;
      seen = run image a fresh_walk c.calls;
    }

-- ## The cases

-- a type 2 block and one of a type that is unknown, of this length
abbrev leaf_to : ℕ → List ℕ
leaf_to length = 0x00 ∷ 0x08 ∷ 0x02 ∷ 0x86 ∷ 0x02 ∷ 0x00 ∷ 0x01 ∷ 0x00 ∷ 0x02 ∷ 0x00 ∷ (0x80 + length) ∷ 0x09 ∷ replicate (length - 1) 0

-- read, with the first block at a byte, and refused
abbrev taken : Layout → ℕ → ℕ → ℕ → CardCase
taken l controllers start first = record {
  layout = l;
  controllers = controllers;
  start = start;
  reading = leaves.accepted 21143 7 (leaf_to 97) 1 0 1 (2 ∷ []) (first ∷ []);
  calls = load ∷ look (1 ∷ 0 ∷ []) ∷ [];
  seen = then false none 0 0 ∷ then true 0 1 1 ∷ [];
}

abbrev refused_card : Layout → ℕ → ℕ → ℕ → ℕ → CardCase
refused_card l controllers start length number = record {
  layout = l;
  controllers = controllers;
  start = start;
  reading = leaves.refused 21143 7 (leaf_to length) number;
  calls = [];
  seen = [];
}

-- without a Magic Packet block: 32 controllers and a leaf at 400, whose last block ends at byte 507, or would at 508; 33
unfoldable pub plain_cards : List CardCase
plain_cards =
    taken (large without_magic) 32 400 403
    ∷ refused_card (large without_magic) 32 400 98 13
    ∷ refused_card (large without_magic) 33 400 97 5
    ∷ []

-- with one: the same, and byte 475, or 476
unfoldable pub magic_cards : List CardCase
magic_cards =
    taken (large with_magic) 32 368 371
    ∷ refused_card (large with_magic) 32 368 98 13
    ∷ refused_card (large with_magic) 33 368 97 5
    ∷ []

-- 21 controllers before a Magic Packet block, in either size
unfoldable pub twenty_one_cards : List CardCase
twenty_one_cards = taken (large with_magic) 21 368 371 ∷ refused_card with_magic 21 90 1 5 ∷ []

-- as many blocks as a leaf can have, of one byte each, on a 21041: none is the default, and the last is selected
unfoldable pub longest_cards : List CardCase
longest_cards =
    record {
      layout = large without_magic;
      controllers = 1;
      start = 30;
      reading =
          leaves.accepted 21041 7 (0x00 ∷ 0x08 ∷ 255 ∷ replicate 255 0) 255 0 0 (replicate 255 257) (values_from (λ i. 287 - i) 0 255);
      calls = load ∷ look (replicate 255 0) ∷ look (replicate 254 0 ++ 1 ∷ []) ∷ [];
      seen = then false none 0 0 ∷ then false none 1 0 ∷ then true 254 2 1 ∷ [];
    }
    ∷ []

-- ## Stated sizes

-- what each call that takes a size answers: reading, three CRCs, and the Magic Packet block's reader and writer
unfoldable pub refusals : ℕ → List ℕ → List ℕ
refusals size image =
    let l : Layout = record { size = size; magic = true } in
    first_met (judge_causes image (newest l 21143))
    ∷ (srom_answer l image).number
    ∷ (id_answer size image).number
    ∷ (magic_answer size image).number
    ∷ magic_read_number size image
    ∷ magic_write_number size image
    ∷ []

-- an image of a layout that is read
abbrev pub whole_card : Layout → List ℕ
whole_card l = card_with l 1 30 (leaf_to 1)
