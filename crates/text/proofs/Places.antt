-- A number's fewest digits are the first count from the least up that holds it, in every base. Assumes nothing.
use Prim.Native.Nat.{ℕ, zero, suc, ◌+◌, ◌-◌, ◌^◌, ◌≤◌, ◌<◌}
use mathlib.Core.Path.{◌≡◌, refl, sym, ap}
use mathlib.Core.Bool.{Bool, true, false}
use native.Mathlib.Omega.{arith}
use native.Mathlib.Nat.{pow-le-pow_left, pow-le-pow_right}
use lib.Dec.{leb, ltb, lit<}
use borrow.Author.Tests.{leb-true, leb-false, ltb-true, ltb-false}
use Rattle.rom.specs.Bytes.{pick}
use Rattle.io.specs.Digits.{last_digits, IsDigitCount}
use Rattle.text.specs.Numbers.{places_from, numeral}

module _ (base n k : ℕ) (b : 0 < base) where
  -- a count that holds the number is not below the fewest
  holds : (least : ℕ) → IsDigitCount base least n k → n < base ^ least → least ≡ k
  holds least f h = go (ltb least k) refl
    where
      go : (t : Bool) → ltb least k ≡ t → least ≡ k
      go true e =
          let l : least < k = ltb-true least k e in
          let p : base ^ least ≤ base ^ (k - 1) = pow-le-pow_right b (omega arith) in
          absurd (omega (arith, f.2 l))
      go false e = omega (arith, ltb-false least k e, f.0)

  -- one that does not is below it
  more-places : (least : ℕ) → IsDigitCount base least n k → base ^ least ≤ n → IsDigitCount base (suc least) n k
  more-places least f h = go (ltb least k) refl
    where
      go : (t : Bool) → ltb least k ≡ t → IsDigitCount base (suc least) n k
      go true e = let l : least < k = ltb-true least k e in (omega arith, f.1, λ _. f.2 l)
      go false e =
          let l : k ≡ least = omega (arith, ltb-false least k e, f.0) in
          let g : n < base ^ least = rw l at f.1 in
          absurd (omega arith)

  counted : (least more : ℕ) → IsDigitCount base least n k → k ≤ least + more → places_from base least more n ≡ k
  unfolding places_from pick
  counted least zero f h = omega (arith, f.0)
  counted least (suc more) f h = go (ltb n (base ^ least)) refl (counted (suc least) more)
    where
      go : (t : Bool) → ltb n (base ^ least) ≡ t
          → (IsDigitCount base (suc least) n k → k ≤ suc least + more → places_from base (suc least) more n ≡ k)
          → pick t least (places_from base (suc least) more n) ≡ k
      go true e ih = holds least f (ltb-true n (base ^ least) e)
      go false e ih = ih (more-places least f (ltb-false n (base ^ least) e)) (omega arith)

  -- a 64-bit number has no more than 20 digits
  few : (least : ℕ) → 10 ≤ base → n < 2 ^ 64 → IsDigitCount base least n k → k ≤ least + 20
  few least w h f = go (leb k (least + 20)) refl
    where
      go : (t : Bool) → leb k (least + 20) ≡ t → k ≤ least + 20
      go true e = leb-true k (least + 20) e
      go false e =
          let l : least + 20 < k = leb-false k (least + 20) e in
          let j : 20 ≤ k - 1 = omega arith in
          let p : 10 ^ 20 ≤ base ^ 20 = pow-le-pow_left w 20 in
          let q : base ^ 20 ≤ base ^ (k - 1) = pow-le-pow_right b j in
          let m : 2 ^ 64 < 10 ^ 20 = lit< tt in
          let g : least < k = omega arith in
          absurd (omega (arith, f.2 g))

-- what `decimal` and `hex` spell, whose contracts say that k digits are the fewest
pub numeral_is : (base least n k : ℕ) → 10 ≤ base → n < 2 ^ 64 → IsDigitCount base least n k → last_digits base k n ≡ numeral base least n
unfolding numeral
numeral_is base least n k w h f =
    let b : 0 < base = omega arith in
    ap (λ (m : ℕ). last_digits base m n) (sym (counted base n k b least 20 f (few base n k b least w h f)))
