-- A cause that is not met can be left out of a list: by induction over the list. Assumes nothing.
use Prim.Native.Nat.{ℕ, zero, suc}
use mathlib.Core.Path.{◌≡◌, refl, sym, ap, ◌∙◌}
use mathlib.Core.Bool.{false}
use mathlib.Core.List.{List, [], ◌∷◌, ◌++◌}
use native.Mathlib.Omega.{arith}
use Rattle.rom.specs.Bytes.{pick}
use Rattle.rom.specs.Refusal.{Cause, cause_at, first_met, Numbered}
use Rattle.rom.proofs.First.{after-accepted, after-refused}

-- the causes but for that at place k
unfoldable pub left_out : ℕ → List Cause → List Cause
left_out k [] = []
left_out zero (c ∷ cs) = cs
left_out (suc k) (c ∷ cs) = c ∷ left_out k cs

pub unmet-left-out : (k : ℕ) (cs : List Cause) → (cause_at cs k).met ≡ false → first_met cs ≡ first_met (left_out k cs)
unfolding left_out first_met pick
unmet-left-out k [] e = refl
unmet-left-out zero (c ∷ cs) e = rw e
unmet-left-out (suc k) (c ∷ cs) e = ap (pick c.met c.number) (unmet-left-out k cs e)

-- the causes after others matter only where none of those is met
pub alike-after : (cs ds es : List Cause) → Numbered cs → (first_met cs ≡ 0 → first_met ds ≡ first_met es)
    → first_met (cs ++ ds) ≡ first_met (cs ++ es)
alike-after cs ds es h same = go (first_met cs) refl
  where
    go : (n : ℕ) → first_met cs ≡ n → first_met (cs ++ ds) ≡ first_met (cs ++ es)
    go zero e = after-accepted cs ds h e ∙ same e ∙ sym (after-accepted cs es h e)
    go (suc n) e = after-refused cs ds (suc n) (λ z. omega arith) e ∙ sym (after-refused cs es (suc n) (λ z. omega arith) e)
