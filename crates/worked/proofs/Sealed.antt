-- An image with its CRCs is not refused for them, since neither covers the bytes that hold it: so its causes are the others, which
-- compute without a CRC. Assumes nothing.
use Prim.Native.Nat.{ℕ, ◌+◌, ◌-◌, ◌*◌, ◌/◌, ◌%◌}
use mathlib.Core.Path.{◌≡◌, refl, sym, ap, ap₂, ◌∙◌}
use mathlib.Core.Bool.{false, not}
use mathlib.Core.List.{List, [], ◌∷◌, ◌++◌, append_assoc}
use native.Mathlib.Omega.{arith}
use lib.Dec.{eqb}
use lib.ListN.{length, take, replicate, set, length-append, length-replicate, length-set}
use lib.Seq.{take-add, get_or_at, get_or-append-add, length-take-le}
use borrow.Author.Tests.{eq-eqb}
use Rattle.rom.specs.declared.Layout.{Layout}
use Rattle.rom.specs.Geometry.{image_length, checked_length, id_crc_at, version_at, controllers_at}
use Rattle.rom.specs.Bytes.{byte_at, word_at}
use Rattle.rom.specs.Refusal.{Cause, first_met}
use Rattle.rom.proofs.Layouts.{geometry}
use Rattle.rom.proofs.Lists.{word_of}
use Rattle.checksum.specs.Crc.{srom_crc, crc8_words, word, crc8, id_crc}
use Rattle.image.specs.declared.Arguments.{Arguments}
use Rattle.image.specs.Image.{image_causes}
use Rattle.image.specs.Arguments.{header_causes}
use Rattle.reader.specs.Reading.{judge_causes, read_causes}
use Rattle.sheet.proofs.Crcs.{srom-front}
use Rattle.worked.specs.Cases.{sharing, unsealed_at, unsealed, sealed, behind_board, image_with}
use Rattle.worked.proofs.Unmet.{left_out, unmet-left-out}

-- it holds both CRCs
pub record Sealed (l : Layout) (image : List ℕ) : Type 0 where
  pub srom : word_at image (checked_length l) ≡ srom_crc l image
  pub id : byte_at image id_crc_at ≡ id_crc image

-- ## Its causes, 3 and 4 apart

pub equal-unmet : (x y : ℕ) → x ≡ y → not (eqb x y) ≡ false
equal-unmet x y e = rw (eq-eqb x y e)

-- places 2 and 3
unfoldable pub crcs_apart : List Cause → List Cause
unfolding left_out
crcs_apart cs = left_out 2 (left_out 2 cs)

module _ (image : List ℕ) (a : Arguments) where
  pub srom-apart : word_at image (checked_length a.layout) ≡ srom_crc a.layout image
      → first_met (judge_causes image a) ≡ first_met (left_out 2 (judge_causes image a))
  unfolding judge_causes header_causes image_causes
  srom-apart e = unmet-left-out 2 _ (equal-unmet _ _ e)

  module _ (s : Sealed a.layout image) where
    pub judge-apart : first_met (judge_causes image a) ≡ first_met (crcs_apart (judge_causes image a))
    unfolding crcs_apart left_out judge_causes header_causes image_causes
    judge-apart = srom-apart s.srom ∙ unmet-left-out 2 _ (equal-unmet _ _ s.id)

    pub read-apart : (kinds offsets : ℕ)
        → first_met (read_causes image a kinds offsets) ≡ first_met (crcs_apart (read_causes image a kinds offsets))
    unfolding crcs_apart left_out read_causes header_causes image_causes
    read-apart kinds offsets =
        unmet-left-out 2 _ (equal-unmet _ _ s.srom) ∙ unmet-left-out 2 _ (equal-unmet _ _ s.id)

-- ## A board with the SROM CRC behind it

module _ (l : Layout) (board rest : List ℕ) (whole : length board ≡ checked_length l) where
  crc_and_rest : List ℕ
  crc_and_rest = srom_crc l board % 256 ∷ srom_crc l board / 256 ∷ rest

  sealed-is : sealed l board ++ rest ≡ board ++ crc_and_rest
  unfolding sealed crc_and_rest
  sealed-is = append_assoc board _ rest

  pub srom-sealed : word_at (sealed l board ++ rest) (checked_length l) ≡ srom_crc l (sealed l board ++ rest)
  unfolding word_at crc_and_rest
  srom-sealed =
      let crc = srom_crc l board in
      let low : byte_at (board ++ crc_and_rest) (checked_length l) ≡ crc % 256 = get_or_at board _ _ 0 _ whole in
      let high : byte_at (board ++ crc_and_rest) (checked_length l + 1)
      ≡ crc / 256 = rw (← whole) (get_or-append-add board crc_and_rest 1 0) in
      rw sealed-is (ap₂ (λ (x y : ℕ). x + 256 * y) low high ∙ word_of crc ∙ sym (srom-front l board crc_and_rest (omega arith)))

  pub board-sealed : ((r : List ℕ) → byte_at (board ++ r) id_crc_at ≡ id_crc (board ++ r)) → Sealed l (sealed l board ++ rest)
  board-sealed id = record { srom = srom-sealed; id = rw sealed-is (id crc_and_rest) }

-- ## An ID block of zeros with a CRC

-- the bytes before the version
abbrev id_block : ℕ → List ℕ
id_block crc = replicate 16 0 ++ crc ∷ 0 ∷ []

id-covers : (c d : ℕ) (r s : List ℕ) → id_crc (id_block c ++ r) ≡ id_crc (id_block d ++ s)
unfolding id_crc crc8 crc8_words word word_at
id-covers c d r s = refl

-- ## The cases' boards

module _ (l : Layout) (controllers start : ℕ) (leaf : List ℕ) where
  -- a board with an ID CRC, and with its own
  abbrev board_with : ℕ → List ℕ
  board_with crc = unsealed_at l crc controllers start leaf

  abbrev pub whole_board : List ℕ
  whole_board = board_with (id_crc (board_with 0))

  -- what stands behind the ID block, and so much of it as the board has
  behind_id : List ℕ
  behind_id =
      (4 ∷ controllers ∷ replicate 6 0) ++ sharing controllers start ++ replicate (start - (controllers_at + 3 * controllers)) 0 ++ leaf
      ++ replicate (image_length l.size) 0

  rest_of_board : List ℕ
  rest_of_board = take (checked_length l - version_at) behind_id

  board-with : (crc : ℕ) → board_with crc ≡ id_block crc ++ rest_of_board
  unfolding unsealed_at behind_id rest_of_board
  board-with crc =
      let g = geometry l in
      let n : checked_length l ≡ version_at + (checked_length l - version_at) = omega arith in
      ap (λ (k : ℕ). take k (id_block crc ++ behind_id)) n ∙ take-add version_at (checked_length l - version_at) (id_block crc ++ behind_id)

  board-whole : (crc : ℕ) → length (board_with crc) ≡ checked_length l
  unfolding unsealed_at
  board-whole crc =
      let g = geometry l in
      length-take-le (checked_length l) _ (simp (length-append, length-replicate) (omega arith))

  own-id : (r : List ℕ) → byte_at (id_block (id_crc (board_with 0)) ++ r) id_crc_at ≡ id_crc (id_block (id_crc (board_with 0)) ++ r)
  own-id r = ap id_crc (board-with 0) ∙ id-covers 0 (id_crc (board_with 0)) rest_of_board r

  pub card-sealed : (rest : List ℕ) → Sealed l (sealed l whole_board ++ rest)
  card-sealed rest =
      board-sealed l whole_board rest (board-whole _) (λ r. rw (board-with (id_crc (board_with 0))) (own-id (rest_of_board ++ r)))

  -- with another version
  pub version-sealed : (version : ℕ) (rest : List ℕ) → Sealed l (sealed l (set whole_board version_at version) ++ rest)
  version-sealed version rest =
      board-sealed l _ rest (length-set whole_board version_at version ∙ board-whole _)
      (λ r. rw (board-with (id_crc (board_with 0))) (own-id (set rest_of_board 0 version ++ r)))

  -- with any byte set, the SROM CRC
  pub srom-behind-set : (at value : ℕ) (rest : List ℕ)
      → word_at (sealed l (set whole_board at value) ++ rest) (checked_length l) ≡ srom_crc l (sealed l (set whole_board at value) ++ rest)
  srom-behind-set at value rest = srom-sealed l _ rest (length-set whole_board at value ∙ board-whole _)

pub image-sealed : (l : Layout) (leaf : List ℕ) → Sealed l (image_with l leaf)
unfolding image_with unsealed
image-sealed l leaf = card-sealed l 1 30 leaf (behind_board l)
