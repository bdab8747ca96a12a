-- Headers, and what a reader answers to them. What goes by an image's length, by a CRC or by a Magic Packet block is left out here:
-- whole images show it (`worked` specs/Cases.antt).
use Rattle.std.specs.Prelude.{ℕ, List, [], ◌∷◌, ◌++◌, Bool, not, replicate}
use Rattle.rom.specs.Geometry.{without_magic, version_at}
use Rattle.rom.specs.Bytes.{keep, is_in}
use Rattle.rom.specs.Refusal.{first_met}
use Rattle.format.specs.Chips.{the_first_edition, the_later_edition}
use Rattle.image.specs.declared.Arguments.{Arguments}
use Rattle.image.specs.Arguments.{header_causes}

-- chip, controller, level and edition, an image's bytes from its version on, with zeros behind them, and the refusal's number
pub record HeaderCase : Type 0 where
  pub chip : ℕ
  pub controller : ℕ
  pub level : ℕ
  pub edition : Bool
  pub bytes : List ℕ
  pub number : ℕ

-- the causes that a header without its CRCs does not tell
abbrev of_whole_images : List ℕ
of_whole_images = 1 ∷ 3 ∷ 4 ∷ 29 ∷ 30 ∷ []

unfoldable pub header_answered : HeaderCase → HeaderCase
header_answered c =
    let a : Arguments = record {
      chip = c.chip;
      controller = c.controller;
      level = c.level;
      layout = without_magic;
      first_edition = c.edition;
    } in
    record {
      chip = c.chip;
      controller = c.controller;
      level = c.level;
      edition = c.edition;
      bytes = c.bytes;
      number = first_met (keep (λ cause. not (is_in cause.number of_whole_images)) (header_causes (replicate version_at 0 ++ c.bytes) a));
    }

-- ## The cases

abbrev header_in : ℕ → ℕ → ℕ → Bool → List ℕ → ℕ → HeaderCase
header_in chip controller level edition bytes number =
    record { chip = chip; controller = controller; level = level; edition = edition; bytes = bytes; number = number }

abbrev header_of : ℕ → ℕ → ℕ → List ℕ → ℕ → HeaderCase
header_of chip controller level bytes number = header_in chip controller level the_later_edition bytes number

-- two controllers: the first has device number 1 and its leaf at 36, of type 0x0800; the second has device number 0 and its leaf
-- at 33, right behind the reserved byte, of type 0x0205, which the 21041 has not
abbrev two_controllers : ℕ → List ℕ
two_controllers version =
    version ∷ 2 ∷ 0x00 ∷ 0x00 ∷ 0xF8 ∷ 0x00 ∷ 0x17 ∷ 0x00 ∷ 1 ∷ 36 ∷ 0 ∷ 0 ∷ 33 ∷ 0 ∷ 0 ∷ 0x05 ∷ 0x02 ∷ 0 ∷ 0x00 ∷ 0x08 ∷ 0 ∷ 0 ∷ []

-- two controllers that share a leaf, the first of which has the last address, 2^48 - 1
abbrev last_address : List ℕ
last_address = 4 ∷ 2 ∷ 0xFF ∷ 0xFF ∷ 0xFF ∷ 0xFF ∷ 0xFF ∷ 0xFF ∷ 0 ∷ 33 ∷ 0 ∷ 0 ∷ 33 ∷ 0 ∷ 0 ∷ 0x00 ∷ 0x08 ∷ 0 ∷ []

-- so many controllers, the first with its leaf at this byte, and the byte behind its three
abbrev leaf_starting : ℕ → ℕ → ℕ → List ℕ
leaf_starting count start reserved =
    4 ∷ count ∷ 0x00 ∷ 0x00 ∷ 0xF8 ∷ 0x00 ∷ 0x17 ∷ 0x00 ∷ 0 ∷ start ∷ 0 ∷ reserved ∷ []

-- one controller with its leaf at 30, of this type, low byte first
abbrev of_type : ℕ → ℕ → ℕ → List ℕ
of_type version low high =
    version ∷ 1 ∷ 0x00 ∷ 0x00 ∷ 0xF8 ∷ 0x00 ∷ 0x17 ∷ 0x00 ∷ 0 ∷ 30 ∷ 0 ∷ 0 ∷ low ∷ high ∷ 0 ∷ []

unfoldable pub header_cases : List HeaderCase
header_cases =
    -- a controller's place in the list is its number
    header_of 21143 0 7 (two_controllers 4) 0
    ∷ header_of 21041 0 7 (two_controllers 4) 0
    ∷ header_of 21041 1 7 (two_controllers 4) 11
    ∷ header_of 21143 1 7 (two_controllers 4) 0
    ∷ header_of 21143 2 7 (two_controllers 4) 6
    -- versions
    ∷ header_of 21143 0 7 (two_controllers 3) 0
    ∷ header_of 21041 0 7 (two_controllers 1) 0
    ∷ header_of 21140 0 7 (two_controllers 1) 0
    ∷ header_of 21143 0 7 (two_controllers 0) 2
    ∷ header_of 21143 0 7 (two_controllers 2) 2
    ∷ header_of 21143 0 7 (two_controllers 5) 2
    ∷ header_of 21143 0 7 (two_controllers 255) 2
    -- 6, 7, 38, 8 and 9, in this order
    ∷ header_of 21144 2 7 (two_controllers 1) 6
    ∷ header_of 21144 0 7 (two_controllers 1) 7
    ∷ header_of 21144 0 7 (two_controllers 4) 7
    ∷ header_of 21143 0 8 (two_controllers 1) 38
    ∷ header_of 21142 0 7 (two_controllers 1) 38
    ∷ header_of 21140 0 8 (two_controllers 1) 8
    ∷ header_of 21143 1 8 last_address 8
    ∷ header_of 21143 1 7 last_address 9
    ∷ header_of 21143 0 7 last_address 0
    -- the count, and the byte behind the last controller
    ∷ header_of 21143 0 7 (leaf_starting 0 30 0) 5
    ∷ header_of 21143 0 7 (leaf_starting 33 30 0) 5
    ∷ header_of 21143 0 7 (leaf_starting 32 30 0) 10
    ∷ header_of 21143 0 7 (leaf_starting 1 30 1) 5
    -- where a leaf's header may stand
    ∷ header_of 21143 0 7 (leaf_starting 1 29 0) 10
    ∷ header_of 21143 0 7 (leaf_starting 1 30 0) 0
    ∷ header_of 21143 0 7 (leaf_starting 1 121 0) 0
    ∷ header_of 21143 0 7 (leaf_starting 1 122 0) 10
    ∷ header_of 21140 0 7 (leaf_starting 1 120 0) 0
    ∷ header_of 21140 0 7 (leaf_starting 1 121 0) 10
    -- a code of each edition, and a version that ignores it
    ∷ header_in 21041 0 7 the_first_edition (of_type 1 0x00 0x02) 0
    ∷ header_in 21041 0 7 the_first_edition (of_type 1 0x04 0x02) 11
    ∷ header_in 21041 0 7 the_later_edition (of_type 1 0x00 0x02) 11
    ∷ header_in 21041 0 7 the_later_edition (of_type 1 0x04 0x02) 0
    ∷ header_in 21041 0 7 the_first_edition (of_type 4 0x00 0x02) 11
    ∷ header_in 21041 0 7 the_first_edition (of_type 4 0x04 0x02) 0
    ∷ []
