-- The causes of a block, one after another, as the tests of the code find them. Assumes nothing.
use Prim.Native.Nat.{ℕ, ◌+◌, ◌-◌, ◌≤◌, ◌<◌}
use mathlib.Core.Path.{◌≡◌, refl, sym, ap, ap₂, ◌∙◌}
use mathlib.Core.Bool.{Bool, true, false, not, ◌&&◌}
use mathlib.Core.List.{List, [], ◌∷◌, ◌++◌}
use lib.Dec.{eqb, lit<}
use native.Mathlib.Omega.{arith}
use lib.ListN.{length, take, drop, get_or}
use lib.Seq.{get_or-drop, drop-drop}
use borrow.Author.Tests.{eq-eqb, ne_eqb}
use Rattle.rom.specs.Geometry.{wrong_length, image_length, magic_at}
use Rattle.rom.specs.Bytes.{pick, byte_at, word_at, all_zero}
use Rattle.std.specs.Prelude.{Ok, Err}
use Rattle.rom.specs.declared.refusal.Refusal.{Refusal}
use Rattle.rom.specs.Numbers.{refusal_number}
use Rattle.rom.specs.Refusal.{◌⇒◌, Numbered, first_met}
use Rattle.rom.proofs.Refusals.{refused_above, not-accepted}
use Rattle.rom.proofs.Reached.{reached, stop, skip, end}
use Rattle.rom.proofs.First.{exact, none_here}
use Rattle.rom.proofs.Layouts.{sized, right-length}
use Rattle.checksum.specs.Crc.{magic_crc}
use Rattle.packet.specs.Block.{password_at, wake_address_at, command_at}
use Rattle.packet.specs.Block.{magic_in, place, zeros_at, last_at, block_crc_at, bad_crc, reserved_bytes, bad_reserved}
use Rattle.packet.specs.Answer.{magic_length_cause, magic_block_causes, magic_read_causes, magic_read_number, magic_reading}
use Rattle.packet.specs.Answer.{magic_answer_of, magic_write_causes, magic_write_number}
use Rattle.checksum.specs.Answer.{checksum_of, magic_answer}
use Rattle.checksum.proofs.Answers.{right-passed, answered-value, never-refused}
use Rattle.packet.specs.Claims.{ExactMagic}

-- ## The reserved bytes: sixteen and one

pub zero-last : (xs : List ℕ) (x : ℕ) → all_zero (xs ++ x ∷ []) ≡ (all_zero xs && eqb x 0)
unfolding all_zero
zero-last [] x = go (eqb x 0)
  where
    go : (t : Bool) → (t && true) ≡ t
    go true = refl
    go false = refl
zero-last (y ∷ xs) x = ap (λ (t : Bool). eqb y 0 && t) (zero-last xs x) ∙ go (eqb y 0) (all_zero xs) (eqb x 0)
  where
    go : (a b c : Bool) → (a && (b && c)) ≡ ((a && b) && c)
    go true b c = refl
    go false b c = refl

-- ## The block: an image's last bytes

module _ (size : ℕ) (image : List ℕ) (passed : 0 ≡ first_met ((1 ⇒ wrong_length size (length image)) ∷ [])) where
  right-long : length image ≡ image_length size
  right-long = right-length size (length image) (right-passed size (length image) passed)

  pub long-enough : 32 ≤ length image
  long-enough = let s = sized size in omega (arith, right-long)

  pub last-bytes : {block : List ℕ} → block ≡ drop (length image - 32) image → block ≡ drop (magic_at size) image
  last-bytes e =
      let s = sized size in
      let start : length image - 32 ≡ magic_at size = omega (arith, right-long) in
      e ∙ ap (λ (n : ℕ). drop n image) start

-- and its fields' places are small
pub starts_low : (size : ℕ) → magic_at size < 65536
starts_low size = let s = sized size in omega arith

-- ## The causes, as the tests of the code find them

-- the length check's own list of causes is the first of the reader's
pub length-refused : (size : ℕ) (image : List ℕ) (r : Refusal)
    → refusal_number r ≡ first_met ((1 ⇒ wrong_length size (length image)) ∷ []) → refusal_number r ≡ magic_read_number size image
unfolding magic_read_number magic_read_causes magic_length_cause first_met pick
length-refused size image r e = go (wrong_length size (length image)) e
  where
    go : (t : Bool) → refusal_number r ≡ pick t 1 0 → refusal_number r ≡ pick t 1 (first_met (magic_block_causes size image))
    go true e = e
    go false e = absurd (not-accepted r e)

-- whether a reserved byte of a block is not 0
abbrev has_stray : List ℕ → Bool
has_stray block = not (all_zero (take 16 (drop zeros_at block)) && eqb (byte_at block last_at) 0)

module _ (size : ℕ) (image : List ℕ) (passed : 0 ≡ first_met ((1 ⇒ wrong_length size (length image)) ∷ []))
    {block : List ℕ} (cut : block ≡ drop (length image - 32) image) where
  right : wrong_length size (length image) ≡ false
  right = right-passed size (length image) passed

  is : block ≡ drop (magic_at size) image
  is = last-bytes size image passed cut

  byte-in : (field : ℕ) → get_or block field 0 ≡ byte_at image (place size field)
  byte-in field = ap (λ (b : List ℕ). get_or b field 0) is ∙ get_or-drop (magic_at size) image field 0

  same-reserved : bad_reserved size image ≡ has_stray block
  unfolding bad_reserved reserved_bytes
  same-reserved =
      let first : all_zero (take 16 (drop zeros_at block)) ≡ all_zero (take 16 (drop (place size zeros_at) image))
      = ap (λ (b : List ℕ). all_zero (take 16 (drop zeros_at b))) is
      ∙ ap (λ (b : List ℕ). all_zero (take 16 b)) (drop-drop zeros_at (magic_at size) image) in
      rw (first, byte-in last_at) (ap not (zero-last (take 16 (drop (place size zeros_at) image)) (byte_at image (place size last_at))))

  -- the byte at `at` is held against the CRC
  module _ {at stored crc : ℕ} (here : at ≡ block_crc_at) (e : stored ≡ get_or block at 0)
      (g : record { number = 0; value = crc } ≡ magic_answer size image) where
    same-crc : not (eqb stored crc) ≡ bad_crc size image
    unfolding bad_crc magic_answer
    same-crc =
        ap₂ (λ (a b : ℕ). not (eqb a b)) (e ∙ ap (λ (n : ℕ). get_or block n 0) here ∙ byte-in block_crc_at)
        (answered-value size image (magic_crc size image) crc right g)

    crc-fits : stored ≡ crc → bad_crc size image ≡ false
    crc-fits h = sym same-crc ∙ simp (eq-eqb stored crc h)

    pub crc-refused : (stored ≡ crc → ⊥) → 29 ≡ magic_read_number size image
    unfolding magic_read_number magic_read_causes magic_block_causes magic_length_cause
    crc-refused h = reached (skip right (stop (sym same-crc ∙ simp (ne_eqb stored crc h))))

    pub stray-refused : stored ≡ crc → {stray : Bool} → stray ≡ has_stray block → stray ≡ true → 30 ≡ magic_read_number size image
    unfolding magic_read_number magic_read_causes magic_block_causes magic_length_cause
    stray-refused h f t = reached (skip right (skip (crc-fits h) (stop (same-reserved ∙ sym f ∙ t))))

    pub all-passed : stored ≡ crc → {stray : Bool} → stray ≡ has_stray block → stray ≡ false → 0 ≡ magic_read_number size image
    unfolding magic_read_number magic_read_causes magic_block_causes magic_length_cause
    all-passed h f t = reached (skip right (skip (crc-fits h) (skip (same-reserved ∙ sym f ∙ t) end)))

-- the CRC call does not refuse
pub no-refusal : (size : ℕ) (image : List ℕ) → 0 ≡ first_met ((1 ⇒ wrong_length size (length image)) ∷ []) → (r : Refusal)
    → checksum_of (Err r) ≡ magic_answer size image → refusal_number r ≡ 0
unfolding magic_answer
no-refusal size image passed r e =
    absurd (never-refused size image (magic_crc size image) r (right-passed size (length image) passed) e)

pub ruleset reading = (length-refused, long-enough, last-bytes, no-refusal, refused_above, stray-refused, all-passed)

-- ## What is known of a block that is read

pub read_right : (size : ℕ) (image : List ℕ) → magic_read_number size image ≡ 0 → wrong_length size (length image) ≡ false
unfolding magic_read_number magic_read_causes magic_length_cause
read_right size image e = (none_here (magic_length_cause size image) (magic_block_causes size image) (lit< tt) e).0

pub read-long : (size : ℕ) (image : List ℕ) → magic_read_number size image ≡ 0 → length image ≡ image_length size
read-long size image e = right-length size (length image) (read_right size image e)

-- the answer, by its number
pub read_refused : (size : ℕ) (image : List ℕ) (r : Refusal) → refusal_number r ≡ magic_read_number size image
    → magic_answer_of (Err r) ≡ magic_reading size image
unfolding magic_reading pick
read_refused size image r e = rw (← e) (simp (ne_eqb (refusal_number r) 0 (not-accepted r)))

pub answer-read : (size : ℕ) (image : List ℕ) → 0 ≡ magic_read_number size image
    → magic_answer_of (Ok (magic_in size image)) ≡ magic_reading size image
unfolding magic_reading pick
answer-read size image e = rw (← e) refl

-- its fields, where the code finds them in the block
module _ (size : ℕ) (image : List ℕ) {block : List ℕ} (is : block ≡ drop (magic_at size) image) (e : 0 ≡ magic_read_number size image) where
  six : (k : ℕ) → take 6 (drop k block) ≡ take 6 (drop (magic_at size + k) image)
  six k = ap (λ b. take 6 (drop k b)) is ∙ ap (take 6) (drop-drop k (magic_at size) image)

  byte : (k : ℕ) → byte_at block k ≡ byte_at image (magic_at size + k)
  byte k = ap (λ b. byte_at b k) is ∙ get_or-drop (magic_at size) image k 0

  pub fields-read : {p a : List ℕ} {c at : ℕ} → p ≡ take 6 (drop password_at block) → a ≡ take 6 (drop wake_address_at block)
      → c ≡ word_at block at → at ≡ command_at
      → magic_answer_of (Ok (record { password = p; address = a; command = c })) ≡ magic_reading size image
  unfolding magic_in word_at
  fields-read ep ea ec place =
      let high : magic_at size + 13 ≡ magic_at size + 12 + 1 = omega arith in
      rw (ep, ea, ec, place, six 0, six 6, byte 12, byte 13, high) (answer-read size image e)

pub ruleset answered_reading = (read_refused, fields-read)

-- ## Exact

read-numbered : (size : ℕ) (image : List ℕ) → Numbered (magic_read_causes size image)
unfolding magic_read_causes magic_block_causes magic_length_cause
read-numbered size image = (lit< tt, (lit< tt, (lit< tt, tt)))

magic-write-numbered : (size : ℕ) (image : List ℕ) → Numbered (magic_write_causes size image)
unfolding magic_write_causes magic_length_cause
magic-write-numbered size image = (lit< tt, tt)

pub exact-magic : ExactMagic
unfolding magic_read_number magic_write_number
exact-magic size image = (
  (exact (magic_read_causes size image) (read-numbered size image)).0,
  (exact (magic_write_causes size image) (magic-write-numbered size image)).0,
)
