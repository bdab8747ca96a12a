-- Where things stand in an image (document 01, 'The image'; document 02, requests 1 and 6). What the size moves goes by the
-- stated size, and what a Magic Packet block moves too by the layout.
use Rattle.std.specs.Prelude.{ℕ, ◌-◌, ◌/◌, Bool, true, false, ◌&&◌, ◌||◌, not, eqb}
use Rattle.rom.specs.declared.Layout.{Layout}
use Rattle.rom.specs.Bytes.{pick}

-- ## The size

-- of parts of 1K and of 4K bits
abbrev pub small_size : ℕ
small_size = 128

abbrev pub large_size : ℕ
large_size = 512

-- of the smaller size, without a Magic Packet block and with one
abbrev pub without_magic : Layout
without_magic = record { size = small_size; magic = false }

abbrev pub with_magic : Layout
with_magic = record { size = small_size; magic = true }

-- the same of the larger
abbrev pub large : Layout → Layout
large l = record { size = large_size; magic = l.magic }

-- one of the two
unfoldable pub is_size : ℕ → Bool
is_size size = eqb size small_size || eqb size large_size

-- refusal 1: a length other than the stated size, or a stated size other than those two
unfoldable pub wrong_length : ℕ → ℕ → Bool
unfolding is_size
wrong_length size length = not (is_size size) || not (eqb length size)

-- a stated size other than the smaller one, to which narrow sheets keep
unfoldable pub other_size : ℕ → Bool
other_size size = not (eqb size small_size)

-- the stated size; one that is neither is refused before anything goes by it, and counts as the smaller
unfoldable pub image_length : ℕ → ℕ
unfolding is_size
image_length size = pick (is_size size) size small_size

-- ## The Magic Packet block

-- it is the image's last 32 bytes
unfoldable pub magic_at : ℕ → ℕ
unfolding image_length
magic_at size = image_length size - 32

-- the number of its first word
unfoldable pub magic_word : ℕ → ℕ
unfolding magic_at
magic_word size = magic_at size / 2

-- ## The board

-- all of the image, or what stands before the Magic Packet block
unfoldable pub board_length : Layout → ℕ
unfolding image_length magic_at
board_length l = pick l.magic (magic_at l.size) (image_length l.size)

-- the SROM CRC stands in the board's last word and covers all before it
unfoldable pub checked_length : Layout → ℕ
unfolding board_length
checked_length l = board_length l - 2

-- leaves end, with all their blocks, before the maker's two bytes
unfoldable pub leaves_end : Layout → ℕ
unfolding board_length
leaves_end l = board_length l - 4

unfoldable pub most_controllers : Layout → ℕ
unfolding image_length
most_controllers l = pick (eqb (image_length l.size) small_size && l.magic) 20 32

abbrev pub id_crc_at : ℕ
id_crc_at = 16

abbrev pub version_at : ℕ
version_at = 18

abbrev pub controller_count_at : ℕ
controller_count_at = 19

-- the base address, most significant byte first
abbrev pub address_at : ℕ
address_at = 20

-- three bytes a controller: device number, leaf offset
abbrev pub controllers_at : ℕ
controllers_at = 26

-- no block, where a block's number is asked for
abbrev pub none : ℕ
none = 255
