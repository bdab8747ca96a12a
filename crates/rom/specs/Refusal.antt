-- A refusal is the first cause that is met, in the order of document 01's 'Why a call is refused'.
use Rattle.std.specs.Prelude.{ℕ, ◌<◌, ◌≡◌, Bool, true, false, List, [], ◌∷◌, length, get_or}
use Rattle.rom.specs.Bytes.{pick}

-- a cause: its number, and whether it is met
pub record Cause : Type 0 where
  pub number : ℕ
  pub met : Bool

abbrev pub ◌⇒◌ : ℕ → Bool → Cause
n ⇒ b = record { number = n; met = b }

infixr 20 ◌⇒◌
-- the number of the first cause that is met, 0 where none is
unfoldable pub first_met : List Cause → ℕ
first_met [] = 0
first_met (c ∷ cs) = pick c.met c.number (first_met cs)

-- ## What makes a refusal exact (demand 1)

abbrev pub cause_at : List Cause → ℕ → Cause
cause_at cs k = get_or cs k (0 ⇒ false)

-- some cause of number n is met, and none before it
pub record First (cs : List Cause) (n : ℕ) : Type 0 where
  pub place : ℕ
  pub within : place < length cs
  pub number : (cause_at cs place).number ≡ n
  pub met : (cause_at cs place).met ≡ true
  pub earlier : (j : ℕ) → j < place → (cause_at cs j).met ≡ false

-- no cause has acceptance's number
abbrev pub Numbered : List Cause → Type 0
Numbered [] = Unit
Numbered (c ∷ cs) = (0 < c.number) × Numbered cs

-- the number n answers for the causes: other than 0, its cause is met and none before it is; 0, none is met
pub record Exact (cs : List Cause) (n : ℕ) : Type 0 where
  pub refused : 0 < n → First cs n
  pub accepted : n ≡ 0 → (j : ℕ) → (cause_at cs j).met ≡ false
