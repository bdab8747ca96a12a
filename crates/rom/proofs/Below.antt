-- A rule at every number below n, by one test that antt computes. Assumes nothing.
use mathlib.Core.Path.{◌≡◌, refl, subst, sym}
use mathlib.Core.Bool.{Bool, true, false, ◌&&◌, not}
use Prim.Native.Nat.{ℕ, zero, suc, ◌<◌}
use native.Mathlib.Nat.{not-suc-le-zero}
use native.Mathlib.Decide.{ℕ_discrete}
use native.Mathlib.Omega.{arith}
use lib.Dec.{T}
use Rattle.rom.specs.Bytes.{any_below}

pub both_left : (a b : Bool) → T (a && b) → T a
both_left true b t = tt
both_left false b t = t

pub both_right : (a b : Bool) → T (a && b) → T b
both_right true b t = t
both_right false b t = absurd t

abbrev pub all_below : (ℕ → Bool) → ℕ → Bool
all_below f zero = true
all_below f (suc n) = f n && all_below f n

pub below : (f : ℕ → Bool) (n : ℕ) → T (all_below f n) → (k : ℕ) → k < n → T (f k)
below f zero t k h = absurd (not-suc-le-zero h)
below f (suc n) t k h = elim (ℕ_discrete k n) [
  | yes e ↦ subst (λ (m : ℕ). T (f m)) (sym e) (both_left (f n) (all_below f n) t)
  | no ne ↦ below f n (both_right (f n) (all_below f n) t) k (omega arith)
]

-- that two tests agree, as such a test
abbrev pub same : Bool → Bool → Bool
same true b = b
same false b = not b

pub same-equal : (a b : Bool) → T (same a b) → a ≡ b
same-equal true true t = refl
same-equal true false t = absurd t
same-equal false true t = absurd t
same-equal false false t = refl

-- tests that agree at every number take one below n alike
pub any_same : (p q : ℕ → Bool) (n : ℕ) → ((k : ℕ) → p k ≡ q k) → any_below p n ≡ any_below q n
unfolding any_below
any_same p q zero e = refl
any_same p q (suc n) e = rw (e n, any_same p q n e)
