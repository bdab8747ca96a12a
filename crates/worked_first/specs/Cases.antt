-- Cards of several versions, read and walked in either edition, and sheets of version 1 (document 02, request 12).
use Rattle.std.specs.Prelude.{ℕ, ◌/◌, ◌%◌, List, [], ◌∷◌, Bool, true, false, set}
use Rattle.rom.specs.Geometry.{without_magic, version_at, none}
use Rattle.checksum.specs.Crc.{id_crc}
use Rattle.format.specs.Chips.{the_first_edition, the_later_edition}
use Rattle.image.specs.declared.Arguments.{Arguments}
use Rattle.walk.specs.Walk.{fresh_walk}
use Rattle.older.specs.Calls.{load, look, fresh, After, run}
use Rattle.worked.specs.Cases.{unsealed, sealed, then}
use Rattle.worked.specs.Sheets.{case21041}

-- ## Cards

-- an image of a version around a leaf, with its CRCs; the ID CRC does not cover the version
unfoldable pub image_of_version : ℕ → List ℕ → List ℕ
image_of_version version leaf =
    sealed without_magic (set (unsealed without_magic (id_crc (unsealed without_magic 0 leaf)) leaf) version_at version)

-- a version, the edition that is named, a chip, a level, a leaf, and what is seen after a load and a look with no link at two blocks
pub record EditionCard : Type 0 where
  pub version : ℕ
  pub edition : Bool
  pub chip : ℕ
  pub level : ℕ
  pub leaf : List ℕ
  pub seen : List After

unfoldable pub in_its_edition : EditionCard → EditionCard
in_its_edition c =
    let a : Arguments = record {
      chip = c.chip;
      controller = 0;
      level = c.level;
      layout = without_magic;
      first_edition = c.edition;
    } in
    record {
      version = c.version;
      edition = c.edition;
      chip = c.chip;
      level = c.level;
      leaf = c.leaf;
      seen = run (image_of_version c.version c.leaf) a fresh_walk (load ∷ look (0 ∷ 0 ∷ []) ∷ []);
    }

-- read, and block 1 has the fixed medium
abbrev read_in : ℕ → Bool → ℕ → List ℕ → EditionCard
read_in version edition chip leaf = record {
  version = version;
  edition = edition;
  chip = chip;
  level = 7;
  leaf = leaf;
  seen = then false none 0 0 ∷ then true 1 1 1 ∷ [];
}

-- refused, so that the walk stays fresh
abbrev refused_in : ℕ → Bool → ℕ → ℕ → List ℕ → ℕ → EditionCard
refused_in version edition chip level leaf number = record {
  version = version;
  edition = edition;
  chip = chip;
  level = level;
  leaf = leaf;
  seen = record { number = number; walk = fresh } ∷ record { number = 20; walk = fresh } ∷ [];
}

-- a leaf of a 21140 with compact blocks of two media codes, and one of a 21041, under a connection type
abbrev compacts : ℕ → ℕ → ℕ → List ℕ
compacts connection one other =
    connection % 256 ∷ connection / 256 ∷ 0x00 ∷ 0x02 ∷ one ∷ 0x00 ∷ 0x00 ∷ 0x00 ∷ other ∷ 0x00 ∷ 0x00 ∷ 0x00 ∷ []

abbrev sias : ℕ → ℕ → ℕ → List ℕ
sias connection one other = connection % 256 ∷ connection / 256 ∷ 0x02 ∷ one ∷ other ∷ []

-- each edition reads its own codes, and what one is taken as is walked alike; the 21041's row has 0x0204 alone
unfoldable pub edition_cards : List EditionCard
edition_cards =
    read_in 1 the_first_edition 21140 (compacts 0x0203 3 5) ∷ refused_in 1 the_later_edition 21140 7 (compacts 0x0203 3 5) 11
    ∷ read_in 1 the_later_edition 21140 (compacts 0x0205 3 5) ∷ refused_in 1 the_first_edition 21140 7 (compacts 0x0205 3 5) 11
    ∷ read_in 1 the_first_edition 21041 (sias 0x0200 0 4) ∷ refused_in 1 the_first_edition 21041 7 (sias 0x0203 0 4) 11
    ∷ []

-- versions 3 and 4 ignore the edition; 38 stands after 7 and before 8; an unknown type gets 14 in version 1, also where no type is
-- known; version 2 is none
unfoldable pub version_cards : List EditionCard
version_cards =
    read_in 3 the_first_edition 21140 (compacts 0x0205 3 5) ∷ refused_in 4 the_first_edition 21140 7 (compacts 0x0203 3 5) 11
    ∷ refused_in 1 the_first_edition 21144 8 (sias 0x0200 0 4) 7 ∷ refused_in 1 the_first_edition 21143 8 (sias 0x0200 0 4) 38
    ∷ refused_in 1 the_first_edition 21041 8 (sias 0x0200 0 4) 8
    ∷ refused_in 1 the_first_edition 21140 0 (0x00 ∷ 0x08 ∷ 0x00 ∷ 0x01 ∷ 0x81 ∷ 0x09 ∷ []) 14
    ∷ refused_in 2 the_first_edition 21041 7 (sias 0x0200 0 4) 2
    ∷ []

-- ## Sheets

-- case21041's, of version 1 under a connection type
unfoldable pub sheet_under : ℕ → List ℕ
sheet_under connection = set (set (set case21041.sheet 19 1) 29 (connection % 256)) 30 (connection / 256)
