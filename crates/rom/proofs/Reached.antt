-- The number of a list of causes, as early returns find it: causes that are skipped, and one at which the search stops.
-- Assumes nothing.
use Prim.Native.Nat.{ℕ}
use mathlib.Core.Path.{◌≡◌, refl, sym, ◌∙◌}
use mathlib.Core.Bool.{true, false}
use mathlib.Core.List.{List, [], ◌∷◌, ◌++◌}
use Rattle.rom.specs.Bytes.{pick}
use Rattle.rom.specs.Refusal.{Cause, Numbered, first_met}
use Rattle.rom.proofs.First.{after-refused, after-accepted}

pub data Reached : List Cause → ℕ → Type 0 where
  end : Reached [] 0
  stop : {c : Cause} {cs : List Cause} → c.met ≡ true → Reached (c ∷ cs) c.number
  skip : {c : Cause} {cs : List Cause} {n : ℕ} → c.met ≡ false → Reached cs n → Reached (c ∷ cs) n
  -- among the causes of a part, or past all of them
  among : (xs cs : List Cause) {n : ℕ} → (n ≡ 0 → ⊥) → first_met xs ≡ n → Reached (xs ++ cs) n
  past : (xs : List Cause) {cs : List Cause} {n : ℕ} → Numbered xs → first_met xs ≡ 0 → Reached cs n → Reached (xs ++ cs) n

pub reached : {cs : List Cause} {n : ℕ} → Reached cs n → n ≡ first_met cs
unfolding first_met pick
reached end = refl
reached (stop e) = rw e
reached (skip e r) = rw e (reached r)
reached (among xs cs {n} h e) = sym (after-refused xs cs n h e)
reached (past xs {cs} h e r) = reached r ∙ sym (after-accepted xs cs h e)
