-- The image of a record, what an image means for a chip, and when it is tidy (document 01, 'The sheet', 'The image'; document
-- 02, requests 1 and 12).
use Rattle.std.specs.Prelude.{ℕ, ◌+◌, ◌-◌, List, [], ◌∷◌, ◌++◌, map, Bool, ◌&&◌, ◌||◌, length, take, drop, eqb}
use Rattle.rom.specs.declared.Layout.{Layout}
use Rattle.rom.specs.Geometry.{board_length, leaves_end, version_at, address_at, controllers_at}
use Rattle.rom.specs.Bytes.{pick, byte_at, word_at, all_zero}
use Rattle.rom.specs.Store.{word_bytes}
use Rattle.checksum.specs.Crc.{srom_crc, id_crc}
use Rattle.format.specs.Chips.{row_of, row21140, kind_compact, kind21041, newest_level, the_later_edition}
use Rattle.format.specs.Block.{is_extended, size_of, kind_of}
use Rattle.image.specs.declared.Arguments.{Arguments}
use Rattle.image.specs.Image.{controller_count, leaf_at, control_byte, up_to_leaves_end}
use Rattle.image.specs.Arguments.{leaf_for, start_for}
use Rattle.reader.specs.Reading.{blocks_for}
use Rattle.sheet.specs.Lists.{padded}
use Rattle.sheet.specs.Record.{Entry, Plain}

-- ## The image of a record

-- where the writer puts the leaf: n = 1, so the reserved byte is byte 29
abbrev pub leaf_start : ℕ
leaf_start = 30

-- bytes 0 to 29, with an ID CRC
unfoldable pub front_with : ℕ → Plain → List ℕ
front_with crc p =
    p.id ++ (crc ∷ p.last_id ∷ p.version ∷ 1 ∷ (p.address ++ (p.device ∷ (word_bytes leaf_start ++ 0 ∷ []))))

-- the ID CRC does not cover its own byte
unfoldable pub front_of : Plain → List ℕ
front_of p = front_with (id_crc (front_with 0 p)) p

-- a compact or a 21041 block is its body
unfoldable pub is_whole : ℕ → Bool
is_whole kind = eqb kind kind_compact || eqb kind kind21041

-- an extended block has a first byte with top bit 1 and the length of all that follows, and the type byte, before its body
unfoldable pub opening_of : Entry → List ℕ
opening_of e = pick (is_whole e.kind) [] ((128 + (1 + length e.body)) ∷ e.kind ∷ [])

abbrev pub encode : Entry → List ℕ
encode e = opening_of e ++ e.body

unfoldable pub encodes : List Entry → List ℕ
encodes [] = []
encodes (e ∷ es) = encode e ++ encodes es

-- for the 21140 only
unfoldable pub control_bytes : ℕ → ℕ → List ℕ
control_bytes row control = pick (eqb row row21140) (control ∷ []) []

-- connection type, control byte, block count
unfoldable pub leaf_head_of : Plain → List ℕ
leaf_head_of p = word_bytes p.connection ++ (control_bytes (row_of p.chip) p.control ++ length p.entries ∷ [])

unfoldable pub leaf_of : Plain → List ℕ
leaf_of p = leaf_head_of p ++ encodes p.entries

-- the bytes that the SROM CRC covers
unfoldable pub covered_of : Layout → Plain → List ℕ
covered_of l p = front_of p ++ (padded (leaves_end l - leaf_start) (leaf_of p) ++ p.maker)

unfoldable pub board_of : Layout → Plain → List ℕ
board_of l p = covered_of l p ++ word_bytes (srom_crc l (covered_of l p))

-- written over an output, whose bytes behind the board stay: they are a Magic Packet block's
unfoldable pub image_of : Layout → Plain → List ℕ → List ℕ
image_of l p out = board_of l p ++ drop (board_length l) out

-- ## What an image means for a chip

-- the newest level and controller 0, and whether an image of version 1 is of edition 1.00
unfoldable pub newest_in : Layout → Bool → ℕ → Arguments
newest_in l edition chip =
    record { chip = chip; controller = 0; level = newest_level; layout = l; first_edition = edition }

-- what an image means is the same in both editions
abbrev pub newest : Layout → ℕ → Arguments
newest l chip = newest_in l the_later_edition chip

-- how many bytes of a block stand before its body: length and type
unfoldable pub opening_length : ℕ → List ℕ → ℕ
opening_length row s = pick (is_extended row s) 2 0

unfoldable pub body_of : ℕ → List ℕ → List ℕ
body_of row s = drop (opening_length row s) (take (size_of row s) s)

abbrev pub entry_from : ℕ → List ℕ → Entry
entry_from row s = record { kind = kind_of row s; body = body_of row s }

unfoldable pub image_from : Layout → ℕ → List ℕ → Plain
image_from l chip image = record {
  id = take 16 image;
  last_id = byte_at image 17;
  version = byte_at image version_at;
  address = take 6 (drop address_at image);
  device = byte_at image controllers_at;
  chip = chip;
  connection = word_at image (leaf_for image (newest l chip));
  control = control_byte image (row_of chip) (leaf_for image (newest l chip));
  maker = take 2 (drop (leaves_end l) image);
  entries = map (entry_from (row_of chip)) (blocks_for image (newest l chip));
}

-- ## Tidiness

-- how many bytes the blocks take
unfoldable pub sizes : ℕ → List (List ℕ) → ℕ
sizes row [] = 0
sizes row (s ∷ bs) = size_of row s + sizes row bs

-- behind the leaf's last byte
unfoldable pub leaf_end : Layout → ℕ → List ℕ → ℕ
leaf_end l chip image = start_for image (newest l chip) + sizes (row_of chip) (blocks_for image (newest l chip))

-- n = 1, leaf at 30, zeros after the leaf's last byte up to where leaves end
unfoldable pub is_tidy : Layout → ℕ → List ℕ → Bool
is_tidy l chip image =
    eqb (controller_count image) 1 && (eqb (leaf_at image 0) leaf_start && all_zero (up_to_leaves_end l image (leaf_end l chip image)))
