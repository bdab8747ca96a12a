-- Reading and writing return each other: a block stands behind the board as its own bytes, and its CRC covers all of them but
-- the CRC's own byte. Assumes nothing.
use Prim.Native.Nat.{ℕ, ◌+◌, ◌-◌, ◌*◌, ◌<◌}
use native.Mathlib.Omega.{arith}
use mathlib.Core.Path.{◌≡◌, refl, sym, ap, ap₂, ◌∙◌}
use mathlib.Core.Bool.{Bool, true, false}
use mathlib.Core.List.{List, [], ◌∷◌, ◌++◌}
use lib.Dec.{eqb, lit<}
use lib.ListN.{length, take, drop, replicate, length-take, length-drop, take-append-drop, get_or-append}
use lib.Seq.{drop-append-add, get_or-append-add, get_or-drop, get_or-take, drop-drop}
use borrow.Author.Tests.{eq-eqb, eqb-true, not-false}
use Rattle.rom.specs.Geometry.{wrong_length, image_length, magic_at, magic_word}
use Rattle.rom.specs.Bytes.{pick, byte_at, word_at, Bytes, all_zero}
use Rattle.rom.specs.Store.{word_bytes}
use Rattle.rom.specs.Refusal.{first_met}
use Rattle.rom.proofs.First.{none_here}
use Rattle.rom.proofs.Layouts.{sized, right-length}
use Rattle.rom.proofs.Truth.{and-true}
use Rattle.rom.proofs.Lists.{word_of, word_back, zeros-are, bytes_drop, spell, spelled, spelled-whole}
use Rattle.checksum.specs.Crc.{magic_crc}
use Rattle.checksum.proofs.Eight.{crc8-same}
use Rattle.packet.specs.declared.Magic.{Magic}
use Rattle.packet.specs.Block.{place, password_at, command_at, zeros_at, block_crc_at, last_at, magic_in, bad_crc}
use Rattle.packet.specs.Block.{reserved_bytes, bad_reserved}
use Rattle.packet.specs.Block.{fields_of, block_with, laid_with, with_block}
use Rattle.packet.specs.Answer.{magic_length_cause, magic_block_causes, magic_read_causes, magic_read_number, magic_reading, magic_written}
use Rattle.packet.specs.Claims.{SixEach, MagicReturns, MagicImageReturns, BoardStays}
use Rattle.packet.proofs.Reading.{read_right, read-long, answer-read, zero-last}
use Rattle.packet.proofs.Writing.{spelled-magic, fields-length, laid-long, front_long, changed, kept}

-- ## The CRC does not cover its own byte

module _ (size : ℕ) (m : Magic) (w : SixEach m) (image : List ℕ) (long : length image ≡ image_length size) where
  -- a byte of the block, wherever the block stands
  in_block : (crc j : ℕ) → byte_at (laid_with size crc m image) (magic_at size + j) ≡ byte_at (block_with crc m) j
  unfolding laid_with
  in_block crc j =
      let f = front_long size m w image long in
      ap (byte_at (laid_with size crc m image)) (ap (λ (n : ℕ). n + j) (sym f))
      ∙ get_or-append-add (take (magic_at size) image) (block_with crc m) j 0

  covered : (a b j : ℕ) → j < 30 → byte_at (block_with a m) j ≡ byte_at (block_with b m) j
  unfolding block_with
  covered a b j h =
      let n = fields-length m w in
      get_or-append (fields_of m) (a ∷ 0 ∷ []) 0 j (omega arith) ∙ sym (get_or-append (fields_of m) (b ∷ 0 ∷ []) 0 j (omega arith))

  behind : (crc k : ℕ) → byte_at (block_with crc m) (30 + k) ≡ byte_at (crc ∷ 0 ∷ []) k
  unfolding block_with
  behind crc k =
      ap (λ (n : ℕ). byte_at (block_with crc m) (n + k)) (sym (fields-length m w)) ∙ get_or-append-add (fields_of m) (crc ∷ 0 ∷ []) k 0

  pub crc-apart : (a b : ℕ) → magic_crc size (laid_with size a m image) ≡ magic_crc size (laid_with size b m image)
  unfolding magic_crc
  crc-apart a b =
      let g = sized size in
      crc8-same (laid_with size a m image) (laid_with size b m image) 15 (magic_word size)
      (λ i h l.
      let e : i ≡ magic_at size + (i - magic_at size) = omega arith in
      at i (i - magic_at size) e (covered a b (i - magic_at size) (omega arith)))
      (at (2 * (magic_word size + 15) + 1) 31 (omega arith) (behind a 1 ∙ sym (behind b 1)))
    where
      at : (i j : ℕ) → i ≡ magic_at size + j → byte_at (block_with a m) j ≡ byte_at (block_with b m) j
          → byte_at (laid_with size a m image) i ≡ byte_at (laid_with size b m image) i
      at i j e h =
          ap (byte_at (laid_with size a m image)) e ∙ in_block a j ∙ h ∙ sym (in_block b j)
          ∙ ap (byte_at (laid_with size b m image)) (sym e)

-- ## What is written is read back

-- what a block's bytes say
abbrev said_by : List ℕ → Magic
said_by b = record { password = take 6 b; address = take 6 (drop 6 b); command = byte_at b 12 + 256 * byte_at b 13 }

block-said : (m : Magic) → SixEach m → (c : ℕ) → said_by (block_with c m) ≡ m
unfolding block_with fields_of word_bytes spell
block-said m w c =
    let e = spelled-magic m w in
    ap (λ (x : Magic). said_by (block_with c x)) e
    ∙ ap (λ (n : ℕ). record { password = spell 0 6 m.password; address = spell 0 6 m.address; command = n }) (word_of m.command)
    ∙ sym e

module _ (size : ℕ) (m : Magic) (image : List ℕ) (w : SixEach m) (right : wrong_length size (length image) ≡ false) where
  whole_length : length image ≡ image_length size
  whole_length = right-length size (length image) right

  -- a part of the block, wherever the block stands
  part : (c j : ℕ) → drop (place size j) (laid_with size c m image) ≡ drop j (block_with c m)
  unfolding laid_with
  part c j =
      let f = front_long size m w image whole_length in
      ap (λ (n : ℕ). drop (n + j) (laid_with size c m image)) (sym f)
      ∙ drop-append-add (take (magic_at size) image) (block_with c m) j

  good-crc : (c : ℕ) → c ≡ magic_crc size (laid_with size 0 m image) → bad_crc size (laid_with size c m image) ≡ false
  unfolding bad_crc
  good-crc c e =
      let stored : byte_at (laid_with size c m image) (place size block_crc_at) ≡ c
      = in_block size m w image whole_length c 30 ∙ behind size m w image whole_length c 0 in
      simp (eq-eqb _ _ (stored ∙ e ∙ crc-apart size m w image whole_length 0 c))

  spelled-zeros : (c : ℕ) → take 16 (drop 14 (block_with c m)) ≡ replicate 16 0
  unfolding block_with fields_of word_bytes spell
  spelled-zeros c = ap (λ (x : Magic). take 16 (drop 14 (block_with c x))) (spelled-magic m w)

  good-reserved : (c : ℕ) → bad_reserved size (laid_with size c m image) ≡ false
  unfolding bad_reserved reserved_bytes all_zero
  good-reserved c =
      let last : byte_at (laid_with size c m image) (place size last_at) ≡ 0
      = in_block size m w image whole_length c 31 ∙ behind size m w image whole_length c 1 in
      let sixteen : take 16 (drop (place size zeros_at) (laid_with size c m image)) ≡ replicate 16 0
      = ap (take 16) (part c 14) ∙ spelled-zeros c in
      rw (sixteen, last)

  laid-fields : (c : ℕ) → magic_in size (laid_with size c m image) ≡ m
  unfolding magic_in word_at
  laid-fields c =
      let high : place size command_at + 1 ≡ magic_at size + 13 = omega arith in
      rw (part c 0, part c 6, in_block size m w image whole_length c 12, high, in_block size m w image whole_length c 13) (block-said m w c)

  laid-read : (c : ℕ) → c ≡ magic_crc size (laid_with size 0 m image) → magic_read_number size (laid_with size c m image) ≡ 0
  unfolding magic_read_number magic_read_causes magic_block_causes first_met pick magic_length_cause
  laid-read c e =
      let n : length (laid_with size c m image) ≡ length image = laid-long size m w image whole_length c ∙ sym whole_length in
      simp (n, right, good-crc c e, good-reserved c)

pub magic-returns : MagicReturns
unfolding with_block
magic-returns size m image w right =
    let crc = magic_crc size (laid_with size 0 m image) in
    ap (magic_reading size) (sym (changed size m image right))
    ∙ sym (answer-read size (laid_with size crc m image) (sym (laid-read size m image w right crc refl)))
    ∙ ap (λ (x : Magic). record { number = 0; magic = x }) (laid-fields size m image w right crc)

-- ## What is read, written again

-- a block's bytes are those of what it says
block-own-bytes : (b : List ℕ) → length b ≡ 32 → Bytes b → take 16 (drop 14 b) ≡ replicate 16 0 → byte_at b 31 ≡ 0
    → block_with (byte_at b 30) (said_by b) ≡ b
unfolding block_with fields_of spell
block-own-bytes b l bytes z last =
    ap₂ (λ (p a : List ℕ). (p ++ (a ++ (word_bytes (said_by b).command ++ replicate 16 0))) ++ byte_at b 30 ∷ 0 ∷ [])
    (spelled 0 6 b (omega arith)) (spelled 6 6 b (omega arith))
    ∙ ap₂ (λ (w s : List ℕ). (spell 0 6 b ++ (spell 6 6 b ++ (w ++ s))) ++ byte_at b 30 ∷ 0 ∷ [])
    (word_back (byte_at b 12) (byte_at b 13) (bytes 12)) (sym z ∙ spelled 14 16 b (omega arith))
    ∙ ap (λ (x : ℕ). (spell 0 6 b ++ (spell 6 6 b ++ ((byte_at b 12 ∷ byte_at b 13 ∷ []) ++ spell 14 16 b))) ++ byte_at b 30 ∷ x ∷ [])
    (sym last)
    ∙ sym (spelled-whole 32 b l)

module _ (size : ℕ) (image : List ℕ) (bytes : Bytes image) (e : magic_read_number size image ≡ 0) where
  long : length image ≡ image_length size
  long = read-long size image e

  stored : byte_at image (place size block_crc_at) ≡ magic_crc size image
  unfolding magic_read_number magic_read_causes magic_block_causes bad_crc magic_length_cause
  stored =
      let n = (none_here (magic_length_cause size image) (magic_block_causes size image) (lit< tt) e).1 in
      eqb-true _ _ (not-false _ (none_here _ _ (lit< tt) n).0)

  reserved : all_zero (reserved_bytes size image) ≡ true
  unfolding magic_read_number magic_read_causes magic_block_causes bad_reserved magic_length_cause
  reserved =
      let n = (none_here (magic_length_cause size image) (magic_block_causes size image) (lit< tt) e).1 in
      not-false _ (none_here _ _ (lit< tt) (none_here _ _ (lit< tt) n).1).0

  said : magic_in size image ≡ said_by (drop (magic_at size) image)
  unfolding magic_in word_at
  said =
      let at = magic_at size in
      let first : place size password_at ≡ at = omega arith in
      let high : place size command_at + 1 ≡ at + 13 = omega arith in
      rw (first, high, drop-drop 6 at image, get_or-drop at image 12 0, get_or-drop at image 13 0)

  block-is : block_with (byte_at image (place size block_crc_at)) (magic_in size image) ≡ drop (magic_at size) image
  unfolding reserved_bytes
  block-is =
      let g = sized size in
      let at = magic_at size in
      let b = drop at image in
      let first = take 16 (drop (place size zeros_at) image) in
      let last = byte_at image (place size last_at) in
      let none : (all_zero first ≡ true) × (eqb last 0 ≡ true)
      = and-true (all_zero first) (eqb last 0) (sym (zero-last first last) ∙ reserved) in
      let sixteen : length first ≡ 16 = simp (length-take, length-drop) (omega (arith, long)) in
      let thirty_two : length b ≡ 32 = simp length-drop (omega (arith, long)) in
      ap₂ block_with (sym (get_or-drop at image 30 0)) said
      ∙ block-own-bytes b thirty_two (bytes_drop at image bytes)
      (ap (take 16) (drop-drop 14 at image) ∙ zeros-are 16 first none.0 sixteen)
      (get_or-drop at image 31 0 ∙ eqb-true _ _ none.1)

  whole-said : SixEach (magic_in size image)
  unfolding magic_in
  whole-said = let g = sized size in
      record {
        password = simp (length-take, length-drop) (omega (arith, long));
        address = simp (length-take, length-drop) (omega (arith, long));
      }

pub magic-image-returns : MagicImageReturns
unfolding with_block laid_with
magic-image-returns size image other bytes e same front =
    let m = magic_in size image in
    let c = byte_at image (place size block_crc_at) in
    let w = whole-said size image bytes e in
    let l : length other ≡ image_length size = same ∙ long size image bytes e in
    let right : wrong_length size (length other) ≡ false = ap (wrong_length size) same ∙ read_right size image e in
    let again : laid_with size c m other ≡ image
    = ap₂ (λ (a b : List ℕ). a ++ b) front (block-is size image bytes e) ∙ take-append-drop (magic_at size) image in
    sym (changed size m other right)
    ∙ ap (λ (n : ℕ). laid_with size n m other) (crc-apart size m w other l 0 c ∙ ap (magic_crc size) again
    ∙ sym (stored size image bytes e))
    ∙ again

-- ## The board stays

pub board-stays : BoardStays
unfolding with_block laid_with
board-stays size m image w = go (wrong_length size (length image)) refl
  where
    go : (t : Bool) → wrong_length size (length image) ≡ t
        → (length (magic_written size m image) ≡ length image)
        × ((i : ℕ) → i < magic_at size → byte_at (magic_written size m image) i ≡ byte_at image i)
    go true e = rw (← kept size m image e) (refl, λ i h. refl)
    go false e =
        let l = right-length size (length image) e in
        let f = front_long size m w image l in
        rw (← changed size m image e) (
          laid-long size m w image l _ ∙ sym l,
          λ i h. get_or-append (take (magic_at size) image) _ 0 i (omega arith) ∙ get_or-take (magic_at size) image i 0 h,
        )
