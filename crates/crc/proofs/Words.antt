-- The words of an image, as its bytes are cut two by two, and the register that takes one after another. Assumes nothing.
use Rattle.std.proofs.Common.{◌≡◌, ℕ, zero, suc, ◌+◌, ◌*◌, ◌/◌, ◌-◌, ◌<◌, ◌≤◌, List, [], length, take, drop, get_or}
use Rattle.std.proofs.Common.{refl, sym, ap, ap₂, ◌∙◌, arith, lit<, length-drop, drop-drop}
use Rattle.std.proofs.lemmas.List.{get_or-take, get_or-drop, length-take-le}
use Rattle.std.specs.Simd.{first_chunks}
use Rattle.rom.specs.Bytes.{byte_at}
use Rattle.checksum.specs.Crc.{crc8_bits, word, crc8_words, crc8, ones}
use Rattle.checksum.proofs.Eight.{word-at-once}

chunk-at : (n k i : ℕ) (xs : List ℕ) → i < k → get_or (first_chunks n k xs) i [] ≡ take n (drop (i * n) xs)
chunk-at n zero i xs h = absurd (omega arith)
chunk-at n (suc k) zero xs h = let z : zero * n ≡ 0 = omega arith in rw z refl
chunk-at n (suc k) (suc i) xs h =
    let e : n + i * n ≡ suc i * n = omega arith in
    chunk-at n k i (drop n xs) (omega arith) ∙ ap (take n) (drop-drop (i * n) n xs ∙ ap (λ j. drop j xs) e)

-- one word of those that are left
one-more : (s : List ℕ) (n w r whole : ℕ) → 0 < n → crc8_words n w r s ≡ whole
    → crc8_words (n - 1) (w + 1) (crc8_bits 16 r (word s w)) s ≡ whole
unfolding crc8_words
one-more s n w r whole h e = let z : n ≡ suc (n - 1) = omega arith in rw z at e

module _ (s : List ℕ) (first count start size : ℕ) (at : start ≡ 2 * first) (whole : size ≡ 2 * count) (long : start + size ≤ length s)
    (words : List (List ℕ)) (cut : words ≡ first_chunks 2 (length (take size (drop start s)) / 2) (take size (drop start s)))
    (many : length words ≡ length (take size (drop start s)) / 2) where
  part-long : length (take size (drop start s)) ≡ size
  part-long = length-take-le size (drop start s) (simp length-drop (omega arith))

  byte-of : (i j k : ℕ) → i < length words → j < 2 → k ≡ 2 * (first + i) + j → get_or (get_or words i []) j 0 ≡ byte_at s k
  byte-of i j k h l e =
      let part = take size (drop start s) in
      let place : start + (i * 2 + j) ≡ k = omega arith in
      ap (λ (ws : List (List ℕ)). get_or (get_or ws i []) j 0) cut
      ∙ ap (λ (w : List ℕ). get_or w j 0) (chunk-at 2 (length part / 2) i part (omega arith))
      ∙ get_or-take 2 (drop (i * 2) part) j 0 l
      ∙ get_or-drop (i * 2) part j 0
      ∙ get_or-take size (drop start s) (i * 2 + j) 0 (omega (arith, part-long))
      ∙ get_or-drop start s (i * 2 + j) 0
      ∙ ap (byte_at s) place

  pub word-more : (i r x y all : ℕ) → i < length words → ((k : ℕ) → byte_at s k < 256)
      → x ≡ crc8_bits 8 r (get_or (get_or words i []) 1 0) → y ≡ crc8_bits 8 x (get_or (get_or words i []) 0 0)
      → crc8_words (count - i) (first + i) r s ≡ all
      → crc8_words (count - (i + 1)) (first + (i + 1)) y s ≡ all
  word-more i r x y all h bytes e f so_far =
      let w = first + i in
      let high = byte-of i 1 (2 * w + 1) h (lit< tt) refl in
      let low = byte-of i 0 (2 * w) h (lit< tt) (omega arith) in
      let fed : y ≡ crc8_bits 16 r (word s w)
      = f ∙ ap₂ (crc8_bits 8) (e ∙ ap (crc8_bits 8 r) high) low ∙ sym (word-at-once r w s (bytes (2 * w))) in
      let left : count - (i + 1) ≡ count - i - 1 = omega arith in
      let next : first + (i + 1) ≡ w + 1 = omega arith in
      rw (left, next, fed) (one-more s (count - i) w r all (omega (arith, part-long)) so_far)

  -- and then the high byte of the next
  pub word-last : (i r end x : ℕ) → length words ≤ i → i ≤ length words → end ≡ start + size → x ≡ crc8_bits 8 r (get_or s (end + 1) 0)
      → crc8_words (count - i) (first + i) r s ≡ crc8_words count first (ones 8) s → x ≡ crc8 count first s
  unfolding crc8 crc8_words
  word-last i r end x h g e f so_far =
      let place : end + 1 ≡ 2 * (first + count) + 1 = omega arith in
      let none : count - i ≡ 0 = omega (arith, part-long) in
      let done : crc8_words (count - i) (first + i) r s ≡ r = rw none refl in
      f ∙ ap₂ (λ b k. crc8_bits 8 b (byte_at s k)) (sym done ∙ so_far) place

pub ruleset words_fed = (word-more, word-last)
