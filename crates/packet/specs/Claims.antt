-- What is claimed of the Magic Packet block's reader and writer, for every image.
use Rattle.std.specs.Prelude.{ℕ, ◌<◌, ◌≡◌, false, List, ◌++◌, map, length, take, replicate}
use Rattle.rom.specs.Geometry.{small_size, large_size, wrong_length, magic_at}
use Rattle.rom.specs.Bytes.{byte_at, Bytes}
use Rattle.rom.specs.Refusal.{Exact}
use Rattle.packet.specs.declared.Magic.{Magic}
use Rattle.packet.specs.Cases.{run_magic, whole_block, over_ones, magic_cases}
use Rattle.packet.specs.Block.{magic_in}
use Rattle.packet.specs.Answer.{magic_read_causes, magic_read_number, magic_reading, magic_write_causes, magic_write_number, magic_written}

-- a number other than 0 means that its cause is met and none before it; 0 that none is met
abbrev pub ExactMagic : Type 0
ExactMagic =
    (size : ℕ) (image : List ℕ)
    → Exact (magic_read_causes size image) (magic_read_number size image)
    × Exact (magic_write_causes size image) (magic_write_number size image)

-- six bytes each, as the type has them
pub record SixEach (m : Magic) : Type 0 where
  pub password : length m.password ≡ 6
  pub address : length m.address ≡ 6

-- what is written is read back
abbrev pub MagicReturns : Type 0
MagicReturns =
    (size : ℕ) (m : Magic) (image : List ℕ) → SixEach m → wrong_length size (length image) ≡ false
    → magic_reading size (magic_written size m image) ≡ record { number = 0; magic = m }

-- what is read of an image, written to any image with the same bytes before the block, gives that image
abbrev pub MagicImageReturns : Type 0
MagicImageReturns =
    (size : ℕ) (image other : List ℕ) → Bytes image → magic_read_number size image ≡ 0 → length other ≡ length image
    → take (magic_at size) other ≡ take (magic_at size) image → magic_written size (magic_in size image) other ≡ image

-- every byte before the block stays, and so does the length
abbrev pub BoardStays : Type 0
BoardStays =
    (size : ℕ) (m : Magic) (image : List ℕ) → SixEach m
    → (length (magic_written size m image) ≡ length image)
    × ((i : ℕ) → i < magic_at size → byte_at (magic_written size m image) i ≡ byte_at image i)

-- each worked case is answered as it says, and a block written over ones stands behind the board's ones; in either size
abbrev pub MagicWorked : Type 0
MagicWorked =
    (map (run_magic small_size) magic_cases ≡ magic_cases)
    × (map (run_magic large_size) magic_cases ≡ magic_cases)
    × (over_ones small_size ≡ replicate (magic_at small_size) 1 ++ whole_block)
    × (over_ones large_size ≡ replicate (magic_at large_size) 1 ++ whole_block)
