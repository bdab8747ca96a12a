-- Under a fixed type a look selects the first block that has its medium, by rows that no look changes. Assumes nothing.
use Prim.Native.Nat.{ℕ}
use mathlib.Core.Path.{◌≡◌, refl, ap, ◌∙◌}
use mathlib.Core.List.{List, [], ◌∷◌}
use mathlib.Core.Bool.{true, false}
use Rattle.rom.specs.Bytes.{pick}
use Rattle.walk.specs.declared.Walk.{Walk}
use Rattle.walk.specs.Walk.{way_of, is_fixed, fixed_block, choice, sensed, chosen, stepped, walked_to, look_for}
use Rattle.walk.specs.Claims.{Selects, FixedSelects}
use Rattle.walk.proofs.Looks.{look-keeps}

pub fixed-chosen : (w : Walk) (report : List ℕ) → is_fixed (way_of w.connection) ≡ true → chosen w report ≡ choice true (fixed_block w)
unfolding chosen pick
fixed-chosen w report f = rw f

pub sensed-chosen : (w : Walk) (report : List ℕ) → is_fixed (way_of w.connection) ≡ false → chosen w report ≡ sensed w report
unfolding chosen pick
sensed-chosen w report f = rw f

pub fixed-looked : (w : Walk) (report : List ℕ) → is_fixed (way_of w.connection) ≡ true → (look_for w report).number ≡ 0
    → ((look_for w report).walk.selected ≡ fixed_block w) × ((look_for w report).walk.settled ≡ true)
unfolding look_for walked_to stepped pick
fixed-looked w report f e = rw (e, fixed-chosen w report f) (refl, refl)

pub fixed-selects : FixedSelects
fixed-selects w f reports = go (fixed_block w) w f refl reports
  where
    go : (k : ℕ) (w : Walk) → is_fixed (way_of w.connection) ≡ true → fixed_block w ≡ k → (reports : List (List ℕ)) → Selects k w reports
    go k w f e [] = tt
    go k w f e (report ∷ reports) =
        let kept = look-keeps w report in (
          λ z. ((fixed-looked w report f z).0 ∙ e, (fixed-looked w report f z).1),
          go k (look_for w report).walk (ap (λ (c : ℕ). is_fixed (way_of c)) kept.connection ∙ f) (kept.fixed ∙ e) reports,
        )
