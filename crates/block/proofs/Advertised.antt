-- The code masks five bits at once: that this is so bit by bit is one test over 32 by 32 fields, computed once. Assumes nothing.
use Prim.Native.Nat.{ℕ, ◌/◌, ◌%◌, ◌<◌}
use native.Mathlib.Omega.{arith}
use native.Mathlib.Nat.{div-div-eq-div-mul}
use mathlib.Core.Path.{◌≡◌, ◌∙◌}
use mathlib.Core.Bool.{Bool, ◌||◌, ◌&&◌, not}
use lib.Dec.{eqb}
use lib.Bits.{bit_and}
use Rattle.rom.specs.Bytes.{bit}
use Rattle.format.specs.Block.{exceeds}
use Rattle.rom.proofs.Below.{all_below, below, same, same-equal}

-- some bit of a is not in c
abbrev outside : ℕ → ℕ → Bool
outside a c = beyond 0 || beyond 1 || beyond 2 || beyond 3 || beyond 4
  where
    beyond : ℕ → Bool
    beyond i = bit i a && not (bit i c)

masked : (a c : ℕ) → a < 32 → c < 32 → not (eqb (bit_and a c) a) ≡ outside a c
unfolding bit
masked a c h g = same-equal (not (eqb (bit_and a c) a)) (outside a c)
    (below (λ c. same (not (eqb (bit_and a c) a)) (outside a c)) 32
    (below (λ a. all_below (λ c. same (not (eqb (bit_and a c) a)) (outside a c)) 32) 32 tt a h) c g)

-- bit i of a field that starts at a bit is that bit's i-th next
bit-1 : (x : ℕ) → x % 32 / 1 % 2 ≡ x / 1 % 2
bit-1 x = omega arith

bit-2 : (x : ℕ) → x % 32 / 2 % 2 ≡ x / 2 % 2
bit-2 x = omega arith

bit-4 : (x : ℕ) → x % 32 / 4 % 2 ≡ x / 4 % 2
bit-4 x = omega arith

bit-8 : (x : ℕ) → x % 32 / 8 % 2 ≡ x / 8 % 2
bit-8 x = omega arith

bit-16 : (x : ℕ) → x % 32 / 16 % 2 ≡ x / 16 % 2
bit-16 x = omega arith

pub exceeds-masked : (a c : ℕ) → c < 65536 → not (eqb (bit_and (a / 32 % 32) (c / 2048)) (a / 32 % 32)) ≡ exceeds a c
unfolding exceeds bit
exceeds-masked a c h =
    masked (a / 32 % 32) (c / 2048) (omega arith) (omega arith)
    ∙ simp (bit-1 (a / 32), bit-2 (a / 32), bit-4 (a / 32), bit-8 (a / 32), bit-16 (a / 32), div-div-eq-div-mul)
