-- A register that shifts right takes n bits at once by a shift and an entry of a table. Assumes nothing.
use mathlib.Core.Path.{◌≡◌, sym, ap, ap₂, ◌∙◌}
use Prim.Native.Nat.{ℕ, zero, suc, ◌*◌, ◌/◌, ◌%◌, ◌^◌, ◌<◌}
use native.Mathlib.Nat.{mul-one, mul_assoc, mul-div_cancel, mul-mod_left, pow-suc, div-add-mod', mod-lt}
use native.Mathlib.Numerals.{add-one}
use lib.Arith.{lt-one}
use lib.Bits.{bit_xor, xor_comm, xor_zero_r, xor_shifted}
use lib.Pow.{pow_pos, shr_lt}
use lib.Dec.{lit<}
use Rattle.checksum.specs.Crc.{xor_if}
use Rattle.checksum.proofs.Xor.{xor-half, xor-odd, xor_assoc, xor_if-xor}
use Rattle.crc.specs.Inside.{turn, turns, bits_in}

pub turn_even : (p x y : ℕ) → turn p (bit_xor x (y * 2)) ≡ bit_xor (turn p x) y
unfolding turn
turn_even p x y =
    ap₂ (λ (t h : ℕ). xor_if t p h)
    (xor-odd x (y * 2) ∙ ap (bit_xor (x % 2)) (mul-mod_left y 2) ∙ xor_zero_r (x % 2))
    (xor-half x (y * 2) ∙ ap (bit_xor (x / 2)) (mul-div_cancel y (lit< tt)))
    ∙ xor_if-xor (x % 2) p (x / 2) y

pub turns-high : (p n x y : ℕ) → turns p n (bit_xor x (y * 2 ^ n)) ≡ bit_xor (turns p n x) y
unfolding turns
turns-high p zero x y = ap (bit_xor x) (mul-one y)
turns-high p (suc n) x y =
    ap (λ (z : ℕ). turns p n (turn p (bit_xor x z))) (ap (λ (z : ℕ). y * z) (pow-suc 2 n) ∙ sym (mul_assoc y (2 ^ n) 2))
    ∙ ap (turns p n) (turn_even p x (y * 2 ^ n))
    ∙ turns-high p n (turn p x) y

-- a number is its k low digits XOR the rest
pub parts : (k x : ℕ) → x ≡ bit_xor (x % 2 ^ k) (x / 2 ^ k * 2 ^ k)
parts k x =
    sym (xor_comm (x % 2 ^ k) (x / 2 ^ k * 2 ^ k) ∙ xor_shifted (x / 2 ^ k) k (x % 2 ^ k) (mod-lt x (pow_pos k))
    ∙ div-add-mod' x (2 ^ k))

pub bits_in-turns : (p n r x : ℕ) → x < 2 ^ n → bits_in p n r x ≡ turns p n (bit_xor r x)
unfolding bits_in turns
bits_in-turns p zero r x h = sym (ap (bit_xor r) (lt-one h) ∙ xor_zero_r r)
bits_in-turns p (suc n) r x h =
    bits_in-turns p n (turn p (bit_xor r (x % 2))) (x / 2) (shr_lt n 1 (rw add-one h))
    ∙ ap (turns p n)
    (sym (turn_even p (bit_xor r (x % 2)) (x / 2))
    ∙ ap (turn p) (xor_assoc r (x % 2) (x / 2 * 2) ∙ ap (bit_xor r) (sym (parts 1 x))))

-- n steps at once: the entry at the n low bits, XOR the rest
pub by-table : (p n x : ℕ) → turns p n x ≡ bit_xor (turns p n (x % 2 ^ n)) (x / 2 ^ n)
by-table p n x = ap (turns p n) (parts n x) ∙ turns-high p n (x % 2 ^ n) (x / 2 ^ n)
