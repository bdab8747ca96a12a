-- What is claimed of the CRCs, for every image.
use Rattle.std.specs.Prelude.{ℕ, suc, ◌+◌, ◌*◌, ◌%◌, ◌≡◌, List}
use Rattle.rom.specs.declared.Layout.{Layout}
use Rattle.rom.specs.Geometry.{small_size, large_size, without_magic, with_magic, large, id_crc_at, magic_at, magic_word}
use Rattle.rom.specs.Bytes.{byte_at, values_from}
use Rattle.rom.specs.Refusal.{Exact}
use Rattle.checksum.specs.Crc.{ones, srom_crc, crc8_bits, crc8_words, crc8, id_crc, magic_crc}
use Rattle.checksum.specs.Answer.{crc_causes, srom_answer, id_answer, magic_answer}

-- a number other than 0 means that its cause is met and none before it; 0 that none is met
abbrev pub ExactCrcs : Type 0
ExactCrcs =
    (size : ℕ) (image : List ℕ)
    → ((l : Layout) → Exact (crc_causes l.size image) (srom_answer l image).number)
    × Exact (crc_causes size image) (id_answer size image).number
    × Exact (crc_causes size image) (magic_answer size image).number

-- where the low byte behind n words from word w on is their CRC8, feeding it in leaves the register 0
abbrev pub RegisterIsZero : Type 0
RegisterIsZero =
    (n w : ℕ) (image : List ℕ) → byte_at image (2 * (w + n)) ≡ crc8 n w image
    → crc8_bits 8 (crc8 n w image) (byte_at image (2 * (w + n))) ≡ 0

-- and so do the words themselves with the one behind them, as the chip takes them
abbrev pub WordsLeaveZero : Type 0
WordsLeaveZero =
    (n w : ℕ) (image : List ℕ) → byte_at image (2 * (w + n)) ≡ crc8 n w image → crc8_words (suc n) w (ones 8) image ≡ 0

-- the ID block: where byte 16 is its CRC, words 0 to 8 leave 0
abbrev pub IdLeavesZero : Type 0
IdLeavesZero = (image : List ℕ) → byte_at image id_crc_at ≡ id_crc image → crc8_words 9 0 (ones 8) image ≡ 0

-- the Magic Packet block: where its byte 30 is its CRC, its 16 words leave 0
abbrev pub MagicLeavesZero : Type 0
MagicLeavesZero =
    (size : ℕ) (image : List ℕ) → byte_at image (magic_at size + 30) ≡ magic_crc size image → crc8_words 16 (magic_word size) (ones 8) image
    ≡ 0

-- the image of a size whose bytes are 0, 1, 2 and so on, beginning again behind 255
abbrev pub counting : ℕ → List ℕ
counting size = values_from (λ i. i % 256) 0 size

-- their CRCs, as the second implementation (tests/second) has them
abbrev pub CrcsWorked : Type 0
CrcsWorked =
    (srom_crc without_magic (counting small_size) ≡ 0x1FB5) × (id_crc (counting small_size) ≡ 0x22)
    × (srom_crc with_magic (counting small_size) ≡ 0x49EE) × (magic_crc small_size (counting small_size) ≡ 0x53)
    × (srom_crc (large without_magic) (counting large_size) ≡ 0xF21B) × (srom_crc (large with_magic) (counting large_size) ≡ 0x4631)
    × (magic_crc large_size (counting large_size) ≡ 0x13)
