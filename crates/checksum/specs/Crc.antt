-- The SROM CRC of an image, and the CRC8 of its ID block and of its Magic Packet block (document 01, 'The image'; document 02,
-- request 1). A register is a number below 2 to the power of its
-- width; a shift is a product or a quotient, XOR the machine's.
use Rattle.std.specs.Prelude.{List, [], ◌∷◌, ℕ, zero, suc, ◌+◌, ◌-◌, ◌*◌, ◌/◌, ◌%◌, ◌^◌, take}
use Rattle.std.specs.Int.Bits.{bit_xor}
use Rattle.rom.specs.declared.Layout.{Layout}
use Rattle.rom.specs.Geometry.{magic_word, checked_length}
use Rattle.rom.specs.Bytes.{byte_at, word_at}

-- ## One bit, for a register of any width

-- x, XORed with the polynomial if the taken bit is 1
unfoldable pub xor_if : ℕ → ℕ → ℕ → ℕ
xor_if zero polynomial x = x
xor_if (suc t) polynomial x = bit_xor x polynomial

-- the top bit XOR the data bit is taken, the register of top + 1 bits shifts left, and if the taken bit is 1 it is XORed
-- with the polynomial
unfoldable pub step : ℕ → ℕ → ℕ → ℕ → ℕ
unfolding xor_if
step top polynomial r d = xor_if (bit_xor (r / 2 ^ top) d) polynomial (r * 2 ^ 1 % 2 ^ (top + 1))

-- all ones at first
abbrev pub ones : ℕ → ℕ
ones width = 2 ^ width - 1

-- ## The SROM CRC

abbrev pub srom_polynomial : ℕ
srom_polynomial = 0x04C11DB7

-- n bits of x, from its lowest
unfoldable pub srom_bits : ℕ → ℕ → ℕ → ℕ
unfolding step
srom_bits zero r x = r
srom_bits (suc n) r x = srom_bits n (step 31 srom_polynomial r (x % 2)) (x / 2)

unfoldable pub srom_bytes : ℕ → List ℕ → ℕ
unfolding srom_bits
srom_bytes r [] = r
srom_bytes r (x ∷ xs) = srom_bytes (srom_bits 8 r x) xs

-- the n low bits of x in reverse, behind the bits of front
unfoldable pub reversed : ℕ → ℕ → ℕ → ℕ
reversed zero front x = front
reversed (suc n) front x = reversed n (front * 2 + x % 2) (x / 2)

-- every bit of a register of that width turned over
abbrev pub complement : ℕ → ℕ → ℕ
complement width x = ones width - x

-- the register after the bytes before it, its 32 bits reversed and complemented; the low 16 are stored
unfoldable pub srom_crc : Layout → List ℕ → ℕ
unfolding srom_bytes reversed
srom_crc l image = complement 32 (reversed 32 0 (srom_bytes (ones 32) (take (checked_length l) image))) % 2 ^ 16

-- ## The CRC8 of the ID block and of the Magic Packet block (000, Appendix B)

abbrev pub crc8_polynomial : ℕ
crc8_polynomial = 0x07

-- the n low bits of x, from their top bit
unfoldable pub crc8_bits : ℕ → ℕ → ℕ → ℕ
unfolding step
crc8_bits zero r x = r
crc8_bits (suc n) r x = crc8_bits n (step 7 crc8_polynomial r (x / 2 ^ n % 2)) x

-- word w covers bytes 2w and 2w+1
unfoldable pub word : List ℕ → ℕ → ℕ
unfolding word_at
word image w = word_at image (2 * w)

-- n words from word w on
unfoldable pub crc8_words : ℕ → ℕ → ℕ → List ℕ → ℕ
unfolding crc8_bits word
crc8_words zero w r image = r
crc8_words (suc n) w r image = crc8_words n (w + 1) (crc8_bits 16 r (word image w)) image

-- n words from word w on and then the high byte of the next; uncomplemented
unfoldable pub crc8 : ℕ → ℕ → List ℕ → ℕ
unfolding crc8_words
crc8 n w image = crc8_bits 8 (crc8_words n w (ones 8) image) (byte_at image (2 * (w + n) + 1))

-- words 0 to 7 and then byte 17, the high byte of word 8
unfoldable pub id_crc : List ℕ → ℕ
unfolding crc8
id_crc image = crc8 8 0 image

-- its first 15 words, 48 to 62 in an image of 128 bytes, and then its last byte, the high byte of the next word
unfoldable pub magic_crc : ℕ → List ℕ → ℕ
unfolding crc8
magic_crc size image = crc8 15 (magic_word size) image
