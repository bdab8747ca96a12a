-- The SROM register read in reversed is a register that shifts right, with the polynomial reversed.
-- Assumes nothing.
use mathlib.Core.Path.{◌≡◌, refl, sym, ap, ap₂, ◌∙◌}
use mathlib.Core.List.{List, [], ◌∷◌}
use Prim.Native.Nat.{ℕ, zero, suc, ◌+◌, ◌*◌, ◌/◌, ◌%◌, ◌^◌, ◌<◌, ◌≤◌, ◌-◌}
use native.Mathlib.Nat.{mul-mod_left, mod-eq_of_lt}
use native.Mathlib.Numerals.{add-one}
use native.Mathlib.Omega.{arith}
use lib.Bits.{bit_xor, xor_block, xor_zero_r}
use lib.Pow.{shl-shr, shr-shr, shr_lt, field, mod-mod-pow}
use lib.Dec.{lit<}
use Rattle.checksum.specs.Crc.{xor_if, step, ones, srom_polynomial, srom_bits, srom_bytes, reversed}
use Rattle.crc.specs.Inside.{reflected, turn, turns, bits_in, bytes_in}
use Rattle.checksum.proofs.Xor.{xor-half, xor-odd, odd-lt, step-lt}
use Rattle.crc.proofs.Turns.{bits_in-turns}
use lib.ListN.{length, take, drop, get_or}
use Rattle.std.proofs.lemmas.List.{drop_more, drop_all, take_rest}

reversed-xor : (n a b x y : ℕ) → reversed n (bit_xor a b) (bit_xor x y) ≡ bit_xor (reversed n a x) (reversed n b y)
unfolding reversed
reversed-xor zero a b x y = refl
reversed-xor (suc n) a b x y =
    ap₂ (reversed n)
    (ap (λ (d : ℕ). bit_xor a b * 2 + d) (xor-odd x y) ∙ sym (xor_block 1 a b (x % 2) (y % 2) (odd-lt x) (odd-lt y)))
    (xor-half x y)
    ∙ reversed-xor n (a * 2 + x % 2) (b * 2 + y % 2) (x / 2) (y / 2)

half-shr : (x n : ℕ) → x / 2 / 2 ^ n ≡ x / 2 ^ suc n
half-shr x n = shr-shr x 1 n ∙ ap (λ (k : ℕ). x / 2 ^ k) (omega arith)

-- the bit that comes last is the lowest
reversed-last : (n acc x : ℕ) → reversed (suc n) acc x ≡ reversed n acc x * 2 + x / 2 ^ n % 2
unfolding reversed
reversed-last zero acc x = omega arith
reversed-last (suc n) acc x =
    reversed-last n (acc * 2 + x % 2) (x / 2)
    ∙ ap (λ (y : ℕ). reversed n (acc * 2 + x % 2) (x / 2) * 2 + y % 2) (half-shr x n)

-- only the n low bits are read
reversed-mod : (n acc x : ℕ) → reversed n acc (x % 2 ^ n) ≡ reversed n acc x
unfolding reversed
reversed-mod zero acc x = refl
reversed-mod (suc n) acc x =
    ap₂ (λ (d h : ℕ). reversed n (acc * 2 + d) h)
    (ap (λ (k : ℕ). x % 2 ^ k % 2) (sym (add-one n)) ∙ mod-mod-pow x n 1)
    (ap (λ (k : ℕ). x % 2 ^ k / 2) (sym (add-one n)) ∙ field x n 1)
    ∙ reversed-mod n (acc * 2 + x % 2) (x / 2)

-- a shift left is one to the right
reversed-shift : (n x : ℕ) → reversed (suc n) 0 (x * 2 ^ 1 % 2 ^ (n + 1)) ≡ reversed n 0 x
unfolding reversed
reversed-shift n x =
    ap₂ (λ (d h : ℕ). reversed n (0 * 2 + d) h)
    (mod-mod-pow (x * 2 ^ 1) n 1 ∙ mul-mod_left x 2)
    (field (x * 2 ^ 1) n 1 ∙ ap (λ (y : ℕ). y % 2 ^ n) (shl-shr x 1))
    ∙ reversed-mod n 0 x

reversed-xor_if : (n t p x : ℕ) → reversed n 0 (xor_if t p x) ≡ xor_if t (reversed n 0 p) (reversed n 0 x)
unfolding xor_if
reversed-xor_if n zero p x = refl
reversed-xor_if n (suc t) p x = reversed-xor n 0 0 x p

module _ (n p : ℕ) where
  pub mirror-step : (r d : ℕ) → r < 2 ^ (n + 1) → d < 2
      → reversed (suc n) 0 (step n p r d) ≡ turn (reversed (suc n) 0 p) (bit_xor (reversed (suc n) 0 r) d)
  unfolding step turn
  mirror-step r d hr hd =
      let top : r / 2 ^ n < 2 = shr_lt 1 n (rw add-one-comm hr) in
      let m : reversed (suc n) 0 r ≡ reversed n 0 r * 2 + r / 2 ^ n =
      reversed-last n 0 r ∙ ap (λ (y : ℕ). reversed n 0 r * 2 + y) (mod-eq_of_lt top) in
      let odd : reversed (suc n) 0 r % 2 ≡ r / 2 ^ n = omega arith in
      let half : reversed (suc n) 0 r / 2 ≡ reversed n 0 r = omega arith in
      let none : d / 2 ≡ 0 = omega arith in
      reversed-xor_if (suc n) (bit_xor (r / 2 ^ n) d) p (r * 2 ^ 1 % 2 ^ (n + 1))
      ∙ ap (λ (x : ℕ). xor_if (bit_xor (r / 2 ^ n) d) (reversed (suc n) 0 p) x) (reversed-shift n r)
      ∙ sym (ap₂ (λ (t h : ℕ). xor_if t (reversed (suc n) 0 p) h)
      (xor-odd (reversed (suc n) 0 r) d
      ∙ ap₂ bit_xor odd (mod-eq_of_lt hd))
      (xor-half (reversed (suc n) 0 r) d
      ∙ ap₂ bit_xor half none ∙ xor_zero_r (reversed n 0 r)))
    where
      add-one-comm : 1 + n ≡ n + 1
      add-one-comm = omega arith

srom_bits-lt : (k r x : ℕ) → r < 2 ^ 32 → srom_bits k r x < 2 ^ 32
unfolding srom_bits
srom_bits-lt zero r x h = h
srom_bits-lt (suc k) r x h =
    srom_bits-lt k (step 31 srom_polynomial r (x % 2)) (x / 2) (step-lt 31 srom_polynomial r (x % 2) (lit< tt))

poly : reversed 32 0 srom_polynomial ≡ reflected
unfolding reversed
poly = refl

mirror-bits : (k r x : ℕ) → r < 2 ^ 32 → reversed 32 0 (srom_bits k r x) ≡ bits_in reflected k (reversed 32 0 r) x
unfolding srom_bits bits_in
mirror-bits zero r x h = refl
mirror-bits (suc k) r x h =
    mirror-bits k (step 31 srom_polynomial r (x % 2)) (x / 2) (step-lt 31 srom_polynomial r (x % 2) (lit< tt))
    ∙ ap (λ (s : ℕ). bits_in reflected k s (x / 2))
    (mirror-step 31 srom_polynomial r (x % 2) h (odd-lt x)
    ∙ ap (λ (p : ℕ). turn p (bit_xor (reversed 32 0 r) (x % 2))) poly)

mirror-bytes : (xs : List ℕ) (r : ℕ) → r < 2 ^ 32 → bytes_in reflected (reversed 32 0 r) xs ≡ reversed 32 0 (srom_bytes r xs)
unfolding srom_bytes bytes_in
mirror-bytes [] r h = refl
mirror-bytes (x ∷ xs) r h =
    ap (λ (s : ℕ). bytes_in reflected s xs) (sym (mirror-bits 8 r x h))
    ∙ mirror-bytes xs (srom_bits 8 r x) (srom_bits-lt 8 r x h)

mirror-ones : (xs : List ℕ) → bytes_in reflected (ones 32) xs ≡ reversed 32 0 (srom_bytes (ones 32) xs)
unfolding reversed
mirror-ones xs = mirror-bytes xs (ones 32) (lit< tt)

-- ## Byte by byte, each XORed into the register before its eight steps

mixed-in : (p r x : ℕ) (xs : List ℕ) → x < 256 → bytes_in p (turns p 8 (bit_xor r x)) xs ≡ bytes_in p r (x ∷ xs)
unfolding bytes_in
mixed-in p r x xs h = ap (λ (s : ℕ). bytes_in p s xs) (sym (bits_in-turns p 8 r x h))

-- the first of them
pub first_byte : (s : List ℕ) (x : ℕ) → 1 ≤ length s → x ≡ get_or s 0 0 → x < 256
    → bytes_in reflected (turns reflected 8 (bit_xor (ones 32) x)) (take (length s - 1) (drop 1 s)) ≡ bytes_in reflected (ones 32) s
first_byte s x long e h =
    mixed-in reflected (ones 32) x _ h
    ∙ ap₂ (λ (y : ℕ) (ys : List ℕ). bytes_in reflected (ones 32) (y ∷ ys)) e (take_rest s 1)
    ∙ ap (bytes_in reflected (ones 32)) (sym (drop_more s 0 0 long))

-- one more
pub next-byte : (p : ℕ) (xs : List ℕ) (i mixed next whole : ℕ) → i < length xs → get_or xs i 0 < 256
    → next ≡ bit_xor (turns p 8 mixed) (get_or xs i 0) → bytes_in p (turns p 8 mixed) (drop i xs) ≡ whole
    → bytes_in p (turns p 8 next) (drop (i + 1) xs) ≡ whole
next-byte p xs i mixed next whole inside h e all =
    ap (λ (n : ℕ). bytes_in p (turns p 8 n) (drop (i + 1) xs)) e
    ∙ mixed-in p (turns p 8 mixed) (get_or xs i 0) (drop (i + 1) xs) h
    ∙ ap (bytes_in p (turns p 8 mixed)) (sym (drop_more xs i 0 inside))
    ∙ all

-- and none
pub last_byte : (s xs : List ℕ) (i mixed r : ℕ) → length xs ≤ i → r ≡ bit_xor (turns reflected 8 mixed) 0
    → bytes_in reflected (turns reflected 8 mixed) (drop i xs) ≡ bytes_in reflected (ones 32) s
    → r ≡ reversed 32 0 (srom_bytes (ones 32) s)
unfolding bytes_in
last_byte s xs i mixed r h e all =
    e ∙ xor_zero_r (turns reflected 8 mixed)
    ∙ ap (bytes_in reflected (turns reflected 8 mixed)) (sym (drop_all i xs h))
    ∙ all ∙ mirror-ones s

pub no-byte : (s : List ℕ) → length s < 1 → ones 32 ≡ reversed 32 0 (srom_bytes (ones 32) s)
unfolding srom_bytes reversed
no-byte [] h = refl
no-byte (x ∷ xs) h = absurd (omega arith)

pub ruleset bytes_fed = (first_byte, next-byte, last_byte, no-byte)
