-- Blocks and what is read of them, as the second implementation (tests/second) has it.
use Rattle.std.specs.Prelude.{ℕ, List, [], ◌∷◌, ◌++◌, replicate}
use Rattle.rom.specs.Geometry.{image_length, magic_at}
use Rattle.packet.specs.Block.{magic_in}
use Rattle.packet.specs.Answer.{magic_reading, magic_written}

-- a block's 32 bytes, and what is answered; zeros where it is refused
pub record MagicCase : Type 0 where
  pub block : List ℕ
  pub number : ℕ
  pub password : List ℕ
  pub address : List ℕ
  pub command : ℕ

-- behind a board of zeros, in an image of that size
unfoldable pub run_magic : ℕ → MagicCase → MagicCase
run_magic size c =
    let answer = magic_reading size (replicate (magic_at size) 0 ++ c.block) in
    let m = answer.magic in
    record { block = c.block; number = answer.number; password = m.password; address = m.address; command = m.command }

abbrev read_as : List ℕ → List ℕ → List ℕ → ℕ → MagicCase
read_as block password address command =
    record { block = block; number = 0; password = password; address = address; command = command }

abbrev refused_with : List ℕ → ℕ → MagicCase
refused_with block number =
    record { block = block; number = number; password = replicate 6 0; address = replicate 6 0; command = 0 }

-- the first 14 bytes of a block: password, address and command
abbrev pub fields : List ℕ
fields = 1 ∷ 2 ∷ 3 ∷ 4 ∷ 5 ∷ 6 ∷ 0x00 ∷ 0xA0 ∷ 0xC9 ∷ 0x11 ∷ 0x22 ∷ 0x33 ∷ 0xE0 ∷ 0x01 ∷ []

-- a block that is read, one with another CRC, and one whose last reserved byte is not 0
abbrev pub whole_block : List ℕ
whole_block = fields ++ (replicate 16 0 ++ 0xB9 ∷ 0 ∷ [])

abbrev pub other_crc : List ℕ
other_crc = fields ++ (replicate 16 0 ++ 0xB8 ∷ 0 ∷ [])

abbrev pub stray_last : List ℕ
stray_last = fields ++ (replicate 16 0 ++ 0xBE ∷ 1 ∷ [])

-- a whole block, read behind a board of zeros and written over ones, in an image of that size
unfoldable pub over_ones : ℕ → List ℕ
over_ones size = magic_written size (magic_in size (replicate (magic_at size) 0 ++ whole_block)) (replicate (image_length size) 1)

unfoldable pub magic_cases : List MagicCase
magic_cases =
    read_as whole_block (1 ∷ 2 ∷ 3 ∷ 4 ∷ 5 ∷ 6 ∷ []) (0x00 ∷ 0xA0 ∷ 0xC9 ∷ 0x11 ∷ 0x22 ∷ 0x33 ∷ []) 0x01E0
    -- no field is judged
    ∷ read_as (replicate 30 0 ++ 0x27 ∷ 0 ∷ []) (replicate 6 0) (replicate 6 0) 0
    ∷ read_as (replicate 14 255 ++ replicate 16 0 ++ 0xC0 ∷ 0 ∷ []) (replicate 6 255) (replicate 6 255) 0xFFFF
    -- another CRC, and a reserved byte that it does not fit
    ∷ refused_with other_crc 29
    ∷ refused_with (fields ++ 1 ∷ replicate 15 0 ++ 0xB9 ∷ 0 ∷ []) 29
    -- the first reserved byte, the sixteenth and the last, with the CRC that covers them
    ∷ refused_with (fields ++ 1 ∷ replicate 15 0 ++ 0xBB ∷ 0 ∷ []) 30
    ∷ refused_with (fields ++ replicate 15 0 ++ 0x80 ∷ 0xB2 ∷ 0 ∷ []) 30
    ∷ refused_with stray_last 30
    -- a byte too many, and one too few
    ∷ refused_with (0 ∷ whole_block) 1
    ∷ refused_with (replicate 31 0) 1
    ∷ []
