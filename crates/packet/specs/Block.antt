-- The Magic Packet block of an image (000, section 4; document 02, request 1): where its fields stand by their sizes, what it
-- says, and the image with another block.
use Rattle.std.specs.Prelude.{ℕ, ◌+◌, List, [], ◌∷◌, ◌++◌, Bool, not, eqb, take, drop, replicate}
use Rattle.rom.specs.Geometry.{magic_at}
use Rattle.rom.specs.Bytes.{byte_at, word_at, all_zero}
use Rattle.rom.specs.Store.{word_bytes}
use Rattle.checksum.specs.Crc.{magic_crc}
use Rattle.packet.specs.declared.Magic.{Magic}

-- ## Its fields, counted from its first byte

-- the SecureON password, and the IEEE address that wakes the station: six bytes each
abbrev pub password_at : ℕ
password_at = 0

abbrev pub wake_address_at : ℕ
wake_address_at = 6

-- the Magic command, a word
abbrev pub command_at : ℕ
command_at = 12

-- sixteen reserved bytes
abbrev pub zeros_at : ℕ
zeros_at = 14

-- the CRC, and a reserved byte behind it
abbrev pub block_crc_at : ℕ
block_crc_at = 30

abbrev pub last_at : ℕ
last_at = 31

-- where a field stands in an image
abbrev pub place : ℕ → ℕ → ℕ
place size field = magic_at size + field

-- ## What it says

unfoldable pub magic_in : ℕ → List ℕ → Magic
magic_in size image = record {
  password = take 6 (drop (place size password_at) image);
  address = take 6 (drop (place size wake_address_at) image);
  command = word_at image (place size command_at);
}

-- its byte 30 is not the block's CRC
unfoldable pub bad_crc : ℕ → List ℕ → Bool
bad_crc size image = not (eqb (byte_at image (place size block_crc_at)) (magic_crc size image))

-- its bytes 14 to 29, and 31
unfoldable pub reserved_bytes : ℕ → List ℕ → List ℕ
reserved_bytes size image = take 16 (drop (place size zeros_at) image) ++ byte_at image (place size last_at) ∷ []

-- one of them is not 0
unfoldable pub bad_reserved : ℕ → List ℕ → Bool
bad_reserved size image = not (all_zero (reserved_bytes size image))

-- ## An image with another block

-- its first 30 bytes
unfoldable pub fields_of : Magic → List ℕ
fields_of m = m.password ++ (m.address ++ (word_bytes m.command ++ replicate 16 0))

-- all 32, with a CRC
unfoldable pub block_with : ℕ → Magic → List ℕ
block_with crc m = fields_of m ++ crc ∷ 0 ∷ []

unfoldable pub laid_with : ℕ → ℕ → Magic → List ℕ → List ℕ
laid_with size crc m image = take (magic_at size) image ++ block_with crc m

-- the CRC does not cover its own byte
unfoldable pub with_block : ℕ → Magic → List ℕ → List ℕ
with_block size m image = laid_with size (magic_crc size (laid_with size 0 m image)) m image
