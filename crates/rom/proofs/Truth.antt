-- What tests that hold, or do not, say of their parts. Assumes nothing.
use Prim.Native.Nat.{ℕ}
use mathlib.Core.Path.{◌≡◌, refl, sym}
use mathlib.Core.Bool.{Bool, true, false, ◌||◌, ◌&&◌, not}
use native.Mathlib.Omega.{arith}
use Rattle.rom.specs.Bytes.{pick}

pub true-false {ℓ} : {A : Type ℓ} → true ≡ false → A
true-false e = let z : ◌≡◌ {A = ℕ} 0 1 = cc in absurd (omega arith)

pub pick_true {ℓ} : {A : Type ℓ} (t : Bool) (x y : A) → t ≡ true → pick t x y ≡ x
unfolding pick
pick_true true x y e = refl
pick_true false x y e = true-false (sym e)

pub pick-false {ℓ} : {A : Type ℓ} (t : Bool) (x y : A) → t ≡ false → pick t x y ≡ y
unfolding pick
pick-false true x y e = true-false e
pick-false false x y e = refl

pub and-true : (a b : Bool) → (a && b) ≡ true → (a ≡ true) × (b ≡ true)
and-true true b e = (refl, e)
and-true false b e = true-false (sym e)

pub and-false : (x : Bool) → (x && false) ≡ false
and-false true = refl
and-false false = refl

pub or-false : (a b : Bool) → (a || b) ≡ false → (a ≡ false) × (b ≡ false)
or-false true b e = true-false e
or-false false b e = (refl, e)

pub or-true : (x : Bool) → (x || true) ≡ true
or-true true = refl
or-true false = refl

pub met-not : (t : Bool) → t ≡ true → not t ≡ false
met-not true e = refl
met-not false e = sym e
