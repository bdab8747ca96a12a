-- What a refusal answers and leaves, of whatever call that lays a sheet into a buffer. Assumes nothing.
use Rattle.std.proofs.Common.{ℕ, ◌≡◌, ◌∙◌, refl, List, length, eqb, ne_eqb, false}
use Rattle.rom.specs.Bytes.{pick}
use Rattle.sheet.specs.declared.Made.{Made}
use Rattle.sheet.specs.Lists.{over}

pub refused-leaves : (number : ℕ) (sheet buffer : List ℕ) {n : ℕ} → (n ≡ 0 → ⊥) → n ≡ number
    → (◌≡◌ {A = Made} (record { number = n; length = 0 }) (record { number = number; length = pick (eqb number 0) (length sheet) 0 }))
    × (buffer ≡ pick (eqb number 0) (over buffer sheet) buffer)
unfolding pick
refused-leaves number sheet buffer z e =
    let f : eqb number 0 ≡ false = ne_eqb number 0 (λ x. z (e ∙ x)) in
    (rw (e, f) refl, simp f)
