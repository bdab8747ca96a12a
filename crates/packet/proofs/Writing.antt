-- The block's bytes as the code lays them down: field by field into zeros, behind the board, and then the CRC. Assumes nothing.
use Prim.Native.Nat.{ℕ, ◌+◌, ◌-◌, ◌<◌}
use native.Mathlib.Omega.{arith}
use mathlib.Core.Path.{◌≡◌, refl, sym, ap, ap₂, ◌∙◌}
use mathlib.Core.Bool.{true, false}
use mathlib.Core.List.{List, [], ◌∷◌, ◌++◌}
use lib.ListN.{length, take, replicate, length-append, length-take}
use borrow.Author.Tests.{ne_eqb}
use Rattle.std.specs.Prelude.{Ok, Err}
use Rattle.rom.specs.Geometry.{wrong_length, image_length, magic_at, magic_word}
use Rattle.rom.specs.Bytes.{pick}
use Rattle.rom.specs.declared.refusal.Refusal.{Refusal}
use Rattle.rom.specs.Numbers.{refusal_number}
use Rattle.rom.specs.Refusal.{◌⇒◌, first_met}
use Rattle.rom.specs.Store.{word_bytes, put, laid}
use Rattle.rom.proofs.Layouts.{sized, right-length}
use Rattle.rom.proofs.Refusals.{refused_above, not-accepted}
use Rattle.rom.proofs.Lists.{spell, spelled-whole}
use Rattle.rom.proofs.Put.{laid_end, laid-behind}
use Rattle.checksum.specs.Crc.{magic_crc}
use Rattle.checksum.specs.Answer.{checksum_of, magic_answer}
use Rattle.checksum.proofs.Answers.{right-passed, answered-value, never-refused}
use Rattle.checksum.proofs.Eight.{crc8-lt}
use Rattle.packet.specs.declared.Magic.{Magic}
use Rattle.packet.specs.Block.{place, block_crc_at, fields_of, block_with, laid_with, with_block}
use Rattle.packet.specs.Answer.{magic_length_cause, magic_write_causes, magic_write_number, magic_written}
use Rattle.packet.specs.Claims.{SixEach}
use Rattle.packet.proofs.Reading.{long-enough}

-- six bytes each, as the type says it
abbrev pub Six : List ℕ → Type 0
Six s = length s ≡ 6

pub six-each : (m : Magic) → Six m.password → Six m.address → SixEach m
six-each m p a = record { password = p; address = a }

-- ## A block, spelled out

abbrev pub spelled_magic : Magic → Magic
spelled_magic m = record { password = spell 0 6 m.password; address = spell 0 6 m.address; command = m.command }

pub spelled-magic : (m : Magic) → SixEach m → m ≡ spelled_magic m
spelled-magic m w =
    ap₂ (λ (p a : List ℕ). record { password = p; address = a; command = m.command })
    (spelled-whole 6 m.password w.password) (spelled-whole 6 m.address w.address)

pub fields-length : (m : Magic) → SixEach m → length (fields_of m) ≡ 30
unfolding fields_of word_bytes spell
fields-length m w = ap (λ (x : Magic). length (fields_of x)) (spelled-magic m w)

pub block-length : (crc : ℕ) (m : Magic) → SixEach m → length (block_with crc m) ≡ 32
unfolding block_with
block-length crc m w = length-append (fields_of m) (crc ∷ 0 ∷ []) ∙ ap (λ (n : ℕ). n + 2) (fields-length m w)

-- ## Laid down

module _ (m : Magic) (w : SixEach m) where
  pub fields_laid :
      laid (laid (laid (replicate 32 0) 0 m.password) 6 m.address) 12 (word_bytes m.command) ≡ block_with 0 m
  unfolding laid put pick word_bytes fields_of block_with spell
  fields_laid =
      let e = spelled-magic m w in
      ap (λ (x : Magic). laid (laid (laid (replicate 32 0) 0 x.password) 6 x.address) 12 (word_bytes x.command)) e
      ∙ ap (block_with 0) (sym e)

  crc-put : (crc : ℕ) → put (block_with 0 m) block_crc_at (crc ∷ []) ≡ block_with crc m
  unfolding put block_with fields_of word_bytes spell
  crc-put crc =
      let e = spelled-magic m w in
      ap (λ (x : Magic). put (block_with 0 x) block_crc_at (crc ∷ [])) e ∙ ap (block_with crc) (sym e)

module _ (size : ℕ) (m : Magic) (w : SixEach m) (image : List ℕ) (long : length image ≡ image_length size) where
  pub front_long : length (take (magic_at size) image) ≡ magic_at size
  front_long = let g = sized size in simp length-take (omega arith)

  pub laid-long : (crc : ℕ) → length (laid_with size crc m image) ≡ image_length size
  unfolding laid_with
  laid-long crc =
      let g = sized size in
      let b = block-length crc m w in
      length-append (take (magic_at size) image) (block_with crc m) ∙ omega (arith, front_long)

  pub block-laid : (block : List ℕ) (at : ℕ) → block ≡ block_with 0 m → at ≡ place size 0 → laid image at block ≡ laid_with size 0 m image
  unfolding laid_with
  block-laid block at e p =
      let g = sized size in
      let b = block-length 0 m w in
      let z : at ≡ magic_at size = omega arith in
      rw (e, z) (laid_end image (block_with 0 m) (magic_at size) (omega arith))

  -- with the CRC of what is laid down so far
  pub crc-laid : (crc at : ℕ) → crc ≡ magic_crc size (laid_with size 0 m image) → at ≡ place size block_crc_at
      → laid (laid_with size 0 m image) at (crc ∷ []) ≡ with_block size m image
  unfolding laid_with with_block
  crc-laid crc at e p =
      let b = block-length 0 m w in
      ap (λ (n : ℕ). laid (laid_with size 0 m image) n (crc ∷ [])) p
      ∙ laid-behind (take (magic_at size) image) (block_with 0 m) (crc ∷ []) (magic_at size) block_crc_at front_long (omega arith)
      ∙ ap (λ (l : List ℕ). take (magic_at size) image ++ l) (crc-put m w crc)
      ∙ ap (λ (n : ℕ). laid_with size n m image) e

-- ## What is written

module _ (size : ℕ) (m : Magic) (image : List ℕ) where
  write-accepted : wrong_length size (length image) ≡ false → 0 ≡ magic_write_number size image
  unfolding magic_write_number magic_write_causes first_met pick magic_length_cause
  write-accepted e = rw e

  pub kept : wrong_length size (length image) ≡ true → image ≡ magic_written size m image
  unfolding magic_written magic_write_number magic_write_causes first_met pick magic_length_cause
  kept e = rw e

  pub changed : wrong_length size (length image) ≡ false → with_block size m image ≡ magic_written size m image
  unfolding magic_written pick
  changed e = rw (← write-accepted e)

  -- the length check refused, and nothing was written
  pub write-refused : (r : Refusal) → refusal_number r ≡ first_met ((1 ⇒ wrong_length size (length image)) ∷ [])
      → image ≡ magic_written size m image
  unfolding magic_written magic_write_number magic_write_causes pick magic_length_cause
  write-refused r e = rw (← e) (simp (ne_eqb (refusal_number r) 0 (not-accepted r)))

-- the writer's causes are the length check's
pub same-causes : (size : ℕ) (image : List ℕ) → magic_write_number size image ≡ first_met ((1 ⇒ wrong_length size (length image)) ∷ [])
unfolding magic_write_number magic_write_causes magic_length_cause
same-causes size image = refl

-- it passed: the block, and then its CRC
module _ (size : ℕ) (m : Magic) (password : length m.password ≡ 6) (address : length m.address ≡ 6)
    (image : List ℕ) (passed : 0 ≡ first_met ((1 ⇒ wrong_length size (length image)) ∷ []))
    {block : List ℕ} (eb : block ≡ block_with 0 m) {start : ℕ} (es : start ≡ length image - 32)
    {out : List ℕ} (eo : out ≡ laid image start block) where
  w : SixEach m
  w = six-each m password address

  right : wrong_length size (length image) ≡ false
  right = right-passed size (length image) passed

  long : length image ≡ image_length size
  long = right-length size (length image) right

  first-laid : out ≡ laid_with size 0 m image
  first-laid = let s = sized size in eo ∙ block-laid size m w image long block start eb (omega (arith, long))

  still-right : wrong_length size (length out) ≡ false
  still-right =
      ap (λ (s : List ℕ). wrong_length size (length s)) first-laid
      ∙ ap (wrong_length size) (laid-long size m w image long 0 ∙ sym long) ∙ right

  pub nothing-refused : (r : Refusal) → checksum_of (Err r) ≡ magic_answer size out → refusal_number r ≡ 0
  unfolding magic_answer
  nothing-refused r e = absurd (never-refused size out (magic_crc size out) r still-right e)

  module _ {crc : ℕ} (e : checksum_of (Ok crc) ≡ magic_answer size out) where
    crc-is : crc ≡ magic_crc size out
    unfolding magic_answer
    crc-is = answered-value size out (magic_crc size out) crc still-right e

    pub crc-small : crc < 256
    unfolding magic_crc
    crc-small = rw crc-is (crc8-lt 15 (magic_word size) out)

    pub all-laid : {at : ℕ} {new : List ℕ} → at ≡ start + block_crc_at → new ≡ laid out at (crc ∷ [])
        → new ≡ magic_written size m image
    all-laid {at} place en =
        let s = sized size in
        en ∙ ap (λ (s : List ℕ). laid s at (crc ∷ [])) first-laid
        ∙ crc-laid size m w image long crc at (crc-is ∙ ap (magic_crc size) first-laid) (place ∙ omega (arith, long))
        ∙ changed size m image right

-- what the writer's number goes by
pub ruleset writing = (long-enough, same-causes, nothing-refused, refused_above)
