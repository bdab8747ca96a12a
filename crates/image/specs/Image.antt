-- The image: its header and a controller's leaf (document 01, 'The image', 'Leaf and blocks'; document 02, request 12).
use Rattle.std.specs.Prelude.{ℕ, ◌+◌, ◌-◌, ◌*◌, ◌^◌, List, [], ◌∷◌, ◌++◌, Bool, ◌&&◌, ◌||◌, not, eqb, leb, ltb, length, take, drop}
use Rattle.rom.specs.declared.Layout.{Layout}
use Rattle.rom.specs.Geometry.{wrong_length, checked_length, leaves_end, most_controllers, id_crc_at, version_at}
use Rattle.rom.specs.Geometry.{controller_count_at, address_at}
use Rattle.rom.specs.Geometry.{controllers_at}
use Rattle.rom.specs.Bytes.{pick, byte_at, word_at, is_in}
use Rattle.rom.specs.Refusal.{Cause, ◌⇒◌}
use Rattle.checksum.specs.Crc.{srom_crc, id_crc}
use Rattle.packet.specs.Block.{bad_crc, bad_reserved}
use Rattle.format.specs.Chips.{chips, row21140, first_chips, is_read, newest_level}
use Rattle.image.specs.declared.Arguments.{Arguments}

-- ## The header

unfoldable pub versions : List ℕ
versions = 1 ∷ 3 ∷ 4 ∷ []

-- whether the image is of version 1, the first (document 02, request 12)
unfoldable pub is_first_version : List ℕ → Bool
is_first_version image = eqb (byte_at image version_at) 1

unfoldable pub controller_count : List ℕ → ℕ
controller_count image = byte_at image controller_count_at

-- behind the last controller's three bytes
unfoldable pub reserved_at : List ℕ → ℕ
reserved_at image = controllers_at + 3 * controller_count image

-- byte 20 most significant
unfoldable pub base_address : List ℕ → ℕ
base_address image =
    2 ^ 40 * byte_at image address_at + 2 ^ 32 * byte_at image (address_at + 1) + 2 ^ 24 * byte_at image (address_at + 2)
    + 2 ^ 16 * byte_at image (address_at + 3) + 2 ^ 8 * byte_at image (address_at + 4) + byte_at image (address_at + 5)

-- controller i has address base + i
unfoldable pub address_of : List ℕ → ℕ → ℕ
address_of image controller = base_address image + controller

-- ## A controller's leaf

-- its offset is the word behind the device number
unfoldable pub leaf_at : List ℕ → ℕ → ℕ
leaf_at image controller = word_at image (controllers_at + 3 * controller + 1)

-- connection type (word), for the 21140 only a control byte, block count
unfoldable pub header_length : ℕ → ℕ
header_length row = pick (eqb row row21140) 4 3

unfoldable pub control_byte : List ℕ → ℕ → ℕ → ℕ
control_byte image row leaf = pick (eqb row row21140) (byte_at image (leaf + 2)) 0

unfoldable pub blocks_at : ℕ → ℕ → ℕ
blocks_at row leaf = leaf + header_length row

-- the last byte before the blocks
unfoldable pub block_count : List ℕ → ℕ → ℕ → ℕ
block_count image row leaf = byte_at image (blocks_at row leaf - 1)

-- the image from a byte on, up to where leaves end
unfoldable pub up_to_leaves_end : Layout → List ℕ → ℕ → List ℕ
up_to_leaves_end l image start = take (leaves_end l - start) (drop start image)

-- ## Why an image is refused before its blocks are judged (1 to 4, 29, 30, 5 to 7, 38, 8 to 11)

-- from the image alone
unfoldable pub bad_count : Layout → List ℕ → Bool
bad_count l image =
    eqb (controller_count image) 0 || ltb (most_controllers l) (controller_count image) || not (eqb (byte_at image (reserved_at image)) 0)

-- of a Magic Packet block, where the caller says that it is there
unfoldable pub magic_causes : Layout → List ℕ → List Cause
magic_causes l image = (29 ⇒ l.magic && bad_crc l.size image) ∷ (30 ⇒ l.magic && bad_reserved l.size image) ∷ []

unfoldable pub image_causes : Layout → List ℕ → List Cause
image_causes l image =
    (1 ⇒ wrong_length l.size (length image))
    ∷ (2 ⇒ not (is_in (byte_at image version_at) versions))
    ∷ (3 ⇒ not (eqb (word_at image (checked_length l)) (srom_crc l image)))
    ∷ (4 ⇒ not (eqb (byte_at image id_crc_at) (id_crc image)))
    ∷ (magic_causes l image ++ (5 ⇒ bad_count l image) ∷ [])

-- from the arguments
unfoldable pub argument_causes : List ℕ → Arguments → List Cause
argument_causes image a =
    (6 ⇒ leb (controller_count image) a.controller)
    ∷ (7 ⇒ not (is_in a.chip chips))
    ∷ (38 ⇒ is_first_version image && not (is_in a.chip first_chips))
    ∷ (8 ⇒ ltb newest_level a.level)
    ∷ (9 ⇒ leb (2 ^ 48) (address_of image a.controller))
    ∷ []

-- from the leaf's header: it starts behind the reserved byte and ends where leaves do; `edition` is whether it is of edition 1.00
unfoldable pub leaf_header_causes : Layout → List ℕ → Bool → ℕ → ℕ → List Cause
leaf_header_causes l image edition row leaf =
    (10 ⇒ leb leaf (reserved_at image) || ltb (leaves_end l) (blocks_at row leaf))
    ∷ (11 ⇒ not (is_read edition row (word_at image leaf)))
    ∷ []
