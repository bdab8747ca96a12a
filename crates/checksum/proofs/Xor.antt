-- XOR is associative, and a step of a CRC is linear. Assumes nothing.
use mathlib.Core.Path.{◌≡◌, refl, sym, ap, ◌∙◌}
use Prim.Native.Nat.{ℕ, zero, suc, ◌+◌, ◌*◌, ◌/◌, ◌%◌, ◌^◌, ◌<◌}
use native.Mathlib.Nat.{mod-lt}
use native.Mathlib.Omega.{arith}
use lib.Arith.{bin_ind}
use lib.Bits.{bit_xor, xor_shr, xor_mod, xor_comm, xor_self, xor_zero_l, xor_lt}
use lib.Pow.{pow_pos}
use Rattle.checksum.specs.Crc.{xor_if, step}

digits-assoc : (x y z : ℕ) → x < 2 → y < 2 → z < 2 → bit_xor (bit_xor x y) z ≡ bit_xor x (bit_xor y z)
digits-assoc zero y z hx hy hz = refl
digits-assoc (suc zero) zero z hx hy hz = refl
digits-assoc (suc zero) (suc zero) zero hx hy hz = refl
digits-assoc (suc zero) (suc zero) (suc zero) hx hy hz = refl
digits-assoc (suc zero) (suc zero) (suc (suc z)) hx hy hz = absurd (omega arith)
digits-assoc (suc zero) (suc (suc y)) z hx hy hz = absurd (omega arith)
digits-assoc (suc (suc x)) y z hx hy hz = absurd (omega arith)

-- two numbers are equal when their halves and their lowest digits are
by-halves : (a b : ℕ) → a / 2 ≡ b / 2 → a % 2 ≡ b % 2 → a ≡ b
by-halves a b p q = omega arith

pub xor-half : (a b : ℕ) → bit_xor a b / 2 ≡ bit_xor (a / 2) (b / 2)
xor-half a b = xor_shr a b 1

pub xor-odd : (a b : ℕ) → bit_xor a b % 2 ≡ bit_xor (a % 2) (b % 2)
xor-odd a b = xor_mod a b 1

pub odd-lt : (a : ℕ) → a % 2 < 2
odd-lt a = omega arith

pub xor_assoc : (a b c : ℕ) → bit_xor (bit_xor a b) c ≡ bit_xor a (bit_xor b c)
xor_assoc =
    bin_ind (λ (n : ℕ). (b c : ℕ) → bit_xor (bit_xor n b) c ≡ bit_xor n (bit_xor b c)) (λ b c. refl)
    (λ n ih b c. by-halves (bit_xor (bit_xor n b) c) (bit_xor n (bit_xor b c))
    (xor-half (bit_xor n b) c ∙ ap (λ (x : ℕ). bit_xor x (c / 2)) (xor-half n b) ∙ ih (b / 2) (c / 2)
    ∙ sym (xor-half n (bit_xor b c) ∙ ap (bit_xor (n / 2)) (xor-half b c)))
    (xor-odd (bit_xor n b) c ∙ ap (λ (x : ℕ). bit_xor x (c % 2)) (xor-odd n b)
    ∙ digits-assoc (n % 2) (b % 2) (c % 2) (odd-lt n) (odd-lt b) (odd-lt c)
    ∙ sym (xor-odd n (bit_xor b c) ∙ ap (bit_xor (n % 2)) (xor-odd b c))))

pub xor_if-xor : (t p x y : ℕ) → xor_if t p (bit_xor x y) ≡ bit_xor (xor_if t p x) y
unfolding xor_if
xor_if-xor zero p x y = refl
xor_if-xor (suc t) p x y =
    xor_assoc x y p ∙ ap (bit_xor x) (xor_comm y p) ∙ sym (xor_assoc x p y)

-- the polynomial goes in once for each taken bit, and twice is not at all
pub xor_if-linear : (t u p x y : ℕ) → t < 2 → u < 2 → xor_if (bit_xor t u) p (bit_xor x y) ≡ bit_xor (xor_if t p x) (xor_if u p y)
unfolding xor_if
xor_if-linear zero zero p x y ht hu = refl
xor_if-linear zero (suc zero) p x y ht hu = xor_assoc x y p
xor_if-linear (suc zero) zero p x y ht hu = xor_if-xor 1 p x y
xor_if-linear (suc zero) (suc zero) p x y ht hu =
    ap (bit_xor x) (sym (xor_zero_l y) ∙ ap (λ (z : ℕ). bit_xor z y) (sym (xor_self p)) ∙ xor_assoc p p y ∙ ap (bit_xor p) (xor_comm p y))
    ∙ sym (xor_assoc x p (bit_xor y p))
xor_if-linear zero (suc (suc u)) p x y ht hu = absurd (omega arith)
xor_if-linear (suc zero) (suc (suc u)) p x y ht hu = absurd (omega arith)
xor_if-linear (suc (suc t)) u p x y ht hu = absurd (omega arith)

-- a register of top + 1 bits stays one
xor_if-lt : (k t p x : ℕ) → p < 2 ^ k → x < 2 ^ k → xor_if t p x < 2 ^ k
unfolding xor_if
xor_if-lt k zero p x hp hx = hx
xor_if-lt k (suc t) p x hp hx = xor_lt k x p hx hp

pub step-lt : (top p r d : ℕ) → p < 2 ^ (top + 1) → step top p r d < 2 ^ (top + 1)
unfolding step
step-lt top p r d hp =
    xor_if-lt (top + 1) (bit_xor (r / 2 ^ top) d) p (r * 2 ^ 1 % 2 ^ (top + 1)) hp (mod-lt (r * 2 ^ 1) (pow_pos (top + 1)))
