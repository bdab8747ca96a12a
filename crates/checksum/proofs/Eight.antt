-- Laws of the CRC8's register. It is linear in the register and the data, and a byte fed into itself leaves 0 (tested at all
-- 256); so one entry of a table stands for eight bits, and the byte that holds the CRC leaves 0.
-- Assumes nothing.
use mathlib.Core.Path.{◌≡◌, refl, sym, ap, ap₂, ◌∙◌}
use mathlib.Core.Bool.{Bool}
use mathlib.Core.List.{List}
use Prim.Native.Nat.{ℕ, zero, suc, ◌+◌, ◌*◌, ◌/◌, ◌%◌, ◌^◌, ◌<◌, ◌≤◌}
use native.Mathlib.Nat.{mod-lt, zero-add, suc-add, add_comm, add-zero}
use native.Mathlib.Omega.{arith}
use lib.Dec.{T, eqb, eqb→eq, lit<}
use lib.Bits.{bit_xor, xor_lt, xor_self, xor_zero_r, xor_comm, xor_shr, xor_mod, xor_block}
use lib.Pow.{shr-shr, field, mod-mod-pow}
use Rattle.rom.specs.Geometry.{magic_at, magic_word}
use Rattle.rom.specs.Bytes.{byte_at, word_at}
use Rattle.rom.proofs.Layouts.{sized}
use Rattle.checksum.specs.Crc.{xor_if, step, crc8_polynomial, crc8_bits, word, crc8_words, crc8, id_crc, magic_crc, ones}
use Rattle.checksum.specs.Claims.{RegisterIsZero, WordsLeaveZero, IdLeavesZero, MagicLeavesZero}
use Rattle.rom.proofs.Below.{all_below, below}
use Rattle.checksum.proofs.Xor.{xor_assoc, xor_if-linear, step-lt}

-- ## Linear

shift-linear : (top r s : ℕ)
    → bit_xor r s * 2 ^ 1 % 2 ^ (top + 1) ≡ bit_xor (r * 2 ^ 1 % 2 ^ (top + 1)) (s * 2 ^ 1 % 2 ^ (top + 1))
shift-linear top r s =
    ap (λ (x : ℕ). x % 2 ^ (top + 1))
    (sym (add-zero (bit_xor r s * 2 ^ 1)) ∙ sym (xor_block 1 r s 0 0 (lit< tt) (lit< tt))
    ∙ ap₂ bit_xor (add-zero (r * 2 ^ 1)) (add-zero (s * 2 ^ 1)))
    ∙ xor_mod (r * 2 ^ 1) (s * 2 ^ 1) (top + 1)

step-linear : (top p r s d e : ℕ) → r / 2 ^ top < 2 → s / 2 ^ top < 2 → d < 2 → e < 2
    → step top p (bit_xor r s) (bit_xor d e) ≡ bit_xor (step top p r d) (step top p s e)
unfolding step
step-linear top p r s d e hr hs hd he =
    ap₂ (λ (t x : ℕ). xor_if t p x)
    (ap (λ (x : ℕ). bit_xor x (bit_xor d e)) (xor_shr r s top) ∙ swap (r / 2 ^ top) (s / 2 ^ top) d e)
    (shift-linear top r s)
    ∙ xor_if-linear (bit_xor (r / 2 ^ top) d) (bit_xor (s / 2 ^ top) e) p (r * 2 ^ 1 % 2 ^ (top + 1)) (s * 2 ^ 1 % 2 ^ (top + 1))
    (xor_lt 1 (r / 2 ^ top) d hr hd) (xor_lt 1 (s / 2 ^ top) e hs he)
  where
    swap : (a b c d : ℕ) → bit_xor (bit_xor a b) (bit_xor c d) ≡ bit_xor (bit_xor a c) (bit_xor b d)
    swap a b c d =
        xor_assoc a b (bit_xor c d)
        ∙ ap (bit_xor a) (sym (xor_assoc b c d) ∙ ap (λ (x : ℕ). bit_xor x d) (xor_comm b c) ∙ xor_assoc c b d)
        ∙ sym (xor_assoc a c (bit_xor b d))

-- ## A register of 8 bits stays one

crc8-step-lt : (r d : ℕ) → step 7 crc8_polynomial r d < 256
crc8-step-lt r d = step-lt 7 crc8_polynomial r d (lit< tt)

pub crc8_bits-lt : (n r x : ℕ) → r < 256 → crc8_bits n r x < 256
unfolding crc8_bits
crc8_bits-lt zero r x h = h
crc8_bits-lt (suc n) r x h = crc8_bits-lt n (step 7 crc8_polynomial r (x / 2 ^ n % 2)) x (crc8-step-lt r (x / 2 ^ n % 2))

crc8_words-lt : (n w r : ℕ) (s : List ℕ) → r < 256 → crc8_words n w r s < 256
unfolding crc8_words
crc8_words-lt zero w r s h = h
crc8_words-lt (suc n) w r s h = crc8_words-lt n (w + 1) (crc8_bits 16 r (word s w)) s (crc8_bits-lt 16 r (word s w) h)

pub crc8-lt : (n w : ℕ) (s : List ℕ) → crc8 n w s < 256
unfolding crc8
crc8-lt n w s = crc8_bits-lt 8 (crc8_words n w (ones 8) s) (byte_at s (2 * (w + n) + 1)) (crc8_words-lt n w (ones 8) s (lit< tt))

-- ## A byte fed into itself

own_is_zero : ℕ → Bool
own_is_zero r = eqb (crc8_bits 8 r r) 0

tested : T (all_below own_is_zero 256)
unfolding own_is_zero crc8_bits
tested = tt

pub own : (r : ℕ) → r < 256 → crc8_bits 8 r r ≡ 0
unfolding own_is_zero
own r h = eqb→eq (crc8_bits 8 r r) 0 (below own_is_zero 256 tested r h)

bits-linear : (n r s x y : ℕ) → r < 256 → s < 256 → crc8_bits n (bit_xor r s) (bit_xor x y) ≡ bit_xor (crc8_bits n r x) (crc8_bits n s y)
unfolding crc8_bits
bits-linear zero r s x y hr hs = refl
bits-linear (suc n) r s x y hr hs =
    let d = x / 2 ^ n % 2 in
    let e = y / 2 ^ n % 2 in
    ap (λ (b : ℕ). crc8_bits n (step 7 crc8_polynomial (bit_xor r s) b) (bit_xor x y))
    (ap (λ (b : ℕ). b % 2) (xor_shr x y n) ∙ xor_mod (x / 2 ^ n) (y / 2 ^ n) 1)
    ∙ ap (λ (b : ℕ). crc8_bits n b (bit_xor x y))
    (step-linear 7 crc8_polynomial r s d e (omega arith) (omega arith) (mod-lt (x / 2 ^ n) (lit< tt)) (mod-lt (y / 2 ^ n) (lit< tt)))
    ∙ bits-linear n (step 7 crc8_polynomial r d) (step 7 crc8_polynomial s e) x y (crc8-step-lt r d) (crc8-step-lt s e)

-- eight bits at once: the entry at the register XOR the byte
pub byte-at-once : (r x : ℕ) → r < 256 → x < 256 → crc8_bits 8 r x ≡ crc8_bits 8 (bit_xor r x) 0
byte-at-once r x hr hx =
    sym (ap (crc8_bits 8 (bit_xor r x)) (sym (xor_self x))
    ∙ bits-linear 8 r x x x hr hx
    ∙ ap (bit_xor (crc8_bits 8 r x)) (own x hx)
    ∙ xor_zero_r (crc8_bits 8 r x))

-- ## A word is its high byte and then its low byte

bits-append : (m n r x : ℕ) → crc8_bits (m + n) r x ≡ crc8_bits n (crc8_bits m r (x / 2 ^ n)) x
unfolding crc8_bits
bits-append zero n r x = ap (λ (k : ℕ). crc8_bits k r x) (zero-add n)
bits-append (suc m) n r x =
    ap (λ (k : ℕ). crc8_bits k r x) (suc-add m n)
    ∙ bits-append m n (step 7 crc8_polynomial r (x / 2 ^ (m + n) % 2)) x
    ∙ ap (λ (y : ℕ). crc8_bits n (crc8_bits m (step 7 crc8_polynomial r (y % 2)) (x / 2 ^ n)) x)
    (ap (λ (k : ℕ). x / 2 ^ k) (add_comm m n) ∙ sym (shr-shr x n m))

-- only the n low bits are read
bits-low : (n j r x : ℕ) → crc8_bits n r (x % 2 ^ (j + n)) ≡ crc8_bits n r x
unfolding crc8_bits
bits-low zero j r x = refl
bits-low (suc n) j r x =
    let e : j + suc n ≡ (j + 1) + n = omega arith in
    ap (λ (k : ℕ). crc8_bits (suc n) r (x % 2 ^ k)) e
    ∙ ap (λ (y : ℕ). crc8_bits n (step 7 crc8_polynomial r y) (x % 2 ^ ((j + 1) + n)))
    (ap (λ (y : ℕ). y % 2) (field x (j + 1) n) ∙ mod-mod-pow (x / 2 ^ n) j 1)
    ∙ bits-low n (j + 1) (step 7 crc8_polynomial r (x / 2 ^ n % 2)) x

pub word-at-once : (r w : ℕ) (s : List ℕ) → byte_at s (2 * w) < 256
    → crc8_bits 16 r (word s w) ≡ crc8_bits 8 (crc8_bits 8 r (byte_at s (2 * w + 1))) (byte_at s (2 * w))
unfolding word word_at
word-at-once r w s h =
    let high : word s w / 2 ^ 8 ≡ byte_at s (2 * w + 1) = omega arith in
    let low : word s w % 2 ^ (0 + 8) ≡ byte_at s (2 * w) = omega arith in
    bits-append 8 8 r (word s w)
    ∙ ap (λ (x : ℕ). crc8_bits 8 (crc8_bits 8 r x) (word s w)) high
    ∙ sym (bits-low 8 0 (crc8_bits 8 r (byte_at s (2 * w + 1))) (word s w))
    ∙ ap (crc8_bits 8 (crc8_bits 8 r (byte_at s (2 * w + 1)))) low

-- ## Word by word

words_last : (n w r : ℕ) (s : List ℕ) → crc8_words (suc n) w r s ≡ crc8_bits 16 (crc8_words n w r s) (word s (w + n))
unfolding crc8_words
words_last zero w r s = ap (λ (k : ℕ). crc8_bits 16 r (word s k)) (sym (add-zero w))
words_last (suc n) w r s =
    let e : (w + 1) + n ≡ w + suc n = omega arith in
    words_last n (w + 1) (crc8_bits 16 r (word s w)) s
    ∙ ap (λ (k : ℕ). crc8_bits 16 (crc8_words n (w + 1) (crc8_bits 16 r (word s w)) s) (word s k)) e

-- ## What is covered: the words' bytes, and the high byte behind them

words_same : (s t : List ℕ) (n w r : ℕ) → ((i : ℕ) → 2 * w ≤ i → i < 2 * (w + n) → byte_at s i ≡ byte_at t i)
    → crc8_words n w r s ≡ crc8_words n w r t
unfolding crc8_words word word_at
words_same s t zero w r same = refl
words_same s t (suc n) w r same =
    let e : word s w ≡ word t w
    = ap₂ (λ (a b : ℕ). a + 256 * b) (same (2 * w) (omega arith) (omega arith)) (same (2 * w + 1) (omega arith) (omega arith)) in
    ap (λ (x : ℕ). crc8_words n (w + 1) (crc8_bits 16 r x) s) e
    ∙ words_same s t n (w + 1) (crc8_bits 16 r (word t w)) (λ i h l. same i (omega arith) (omega arith))

pub crc8-same : (s t : List ℕ) (n w : ℕ) → ((i : ℕ) → 2 * w ≤ i → i < 2 * (w + n) → byte_at s i ≡ byte_at t i)
    → byte_at s (2 * (w + n) + 1) ≡ byte_at t (2 * (w + n) + 1) → crc8 n w s ≡ crc8 n w t
unfolding crc8
crc8-same s t n w same e = ap₂ (crc8_bits 8) (words_same s t n w (ones 8) same) e

-- ## The byte that holds the CRC

pub register-is-zero : RegisterIsZero
register-is-zero n w s e = rw e (own (crc8 n w s) (crc8-lt n w s))

pub words-leave-zero : WordsLeaveZero
unfolding crc8
words-leave-zero n w s e =
    words_last n w (ones 8) s
    ∙ word-at-once (crc8_words n w (ones 8) s) (w + n) s (rw e (crc8-lt n w s))
    ∙ register-is-zero n w s e

pub id-leaves-zero : IdLeavesZero
unfolding id_crc
id-leaves-zero s e = words-leave-zero 8 0 s e

pub magic-leaves-zero : MagicLeavesZero
unfolding magic_crc
magic-leaves-zero size s e =
    let g = sized size in
    let place : 2 * (magic_word size + 15) ≡ magic_at size + 30 = omega arith in
    words-leave-zero 15 (magic_word size) s (ap (byte_at s) place ∙ e)
