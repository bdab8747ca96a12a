-- The outcomes of `judged`, each from what the tests say. Assumes nothing.
use Prim.Native.Nat.{ℕ, ◌+◌}
use mathlib.Core.Path.{◌≡◌, refl}
use mathlib.Core.Bool.{Bool, true, false, ◌||◌}
use mathlib.Core.List.{List}
use borrow.Author.Tests.{eq-eqb, ne_eqb}
use Rattle.rom.specs.Bytes.{pick, byte_at, bit}
use Rattle.rom.specs.Refusal.{first_met}
use Rattle.block.specs.Answer.{Verdict}
use Rattle.block.specs.Answer.{Refused}
use Rattle.format.specs.Block.{Facts, length_of, sia_size, length_for, is_wrong}
use Rattle.block.specs.Inside.{judged}
use Rattle.block.specs.Answer.{answered}

module _ (f : Facts) (b : Verdict) where
  pub wrong-length : f.wrong_length ≡ true → Refused 15 ≡ judged f b
  unfolding judged answered first_met pick
  wrong-length e = rw e

  pub bad-code : f.wrong_length ≡ false → f.bad_code ≡ true → Refused 16 ≡ judged f b
  unfolding judged answered first_met pick
  bad-code e g = rw (e, g)

  pub too_much : f.wrong_length ≡ false → f.bad_code ≡ false → f.advertises_too_much ≡ true → Refused 17 ≡ judged f b
  unfolding judged answered first_met pick
  too_much e g h = rw (e, g, h)

  pub fine : f.wrong_length ≡ false → f.bad_code ≡ false → f.advertises_too_much ≡ false → b ≡ judged f b
  unfolding judged answered first_met pick
  fine e g h = rw (e, g, h)

-- a test of two parts
pub or_left : {a : Bool} (b : Bool) → a ≡ true → (a || b) ≡ true
or_left b e = rw e

pub or_right : {a b : Bool} → a ≡ false → b ≡ true → (a || b) ≡ true
or_right e g = rw (e, g)

pub or-none : {a b : Bool} → a ≡ false → b ≡ false → (a || b) ≡ false
or-none e g = rw (e, g)

-- the length that a type's fields ask for
module _ (kind : ℕ) (s : List ℕ) {len : ℕ} (e : len ≡ length_of s) where
  pub is-wrong : (len ≡ length_for kind s → ⊥) → is_wrong kind s ≡ true
  unfolding is_wrong
  is-wrong h = rw (← e, ne_eqb len (length_for kind s) h)

  pub is_right : len ≡ length_for kind s → is_wrong kind s ≡ false
  unfolding is_wrong
  is_right h = rw (← e, eq-eqb len (length_for kind s) h)

-- type 2 is its type byte, a 21041 block's bytes and two words
pub type-2 : (s : List ℕ) → length_for 2 s ≡ 5 + sia_size (byte_at s 2)
unfolding length_for sia_size pick
type-2 s = go (bit 6 (byte_at s 2))
  where
    go : (t : Bool) → ◌≡◌ {A = ℕ} (pick t 12 6) (5 + pick t 7 1)
    go true = refl
    go false = refl
