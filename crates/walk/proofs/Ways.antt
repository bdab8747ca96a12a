-- A look goes by the connection type only through the way to walk. Assumes nothing.
use Prim.Native.Nat.{ℕ}
use mathlib.Core.Path.{◌≡◌, refl, ap, sym, ◌∙◌}
use mathlib.Core.List.{List, [], ◌∷◌}
use mathlib.Core.Bool.{Bool, true, false}
use lib.Dec.{eqb}
use Rattle.rom.specs.Bytes.{pick}
use Rattle.rom.specs.Refusal.{first_met}
use Rattle.walk.specs.declared.Walk.{Walk}
use Rattle.walk.specs.Walk.{way_of, stays, up_in, sensed, fixed_block, chosen, look_causes, stepped, walked_to, look_for}
use Rattle.walk.specs.Claims.{under, EqualButType, SameWay, EmptyAsOnce}
use Rattle.walk.proofs.Computes.{look-computes}

-- ## One look

-- of two types the last counts
under_last : (c d : ℕ) (w : Walk) → under c (under d w) ≡ under c w
unfolding under
under_last c d w = refl

module _ (c d : ℕ) (same : way_of c ≡ way_of d) (w : Walk) (report : List ℕ) where
  causes-under : look_causes (under c w) report ≡ look_causes (under d w) report
  unfolding look_causes fixed_block under
  causes-under = rw same

  stays-under : stays (under c w) report ≡ stays (under d w) report
  unfolding stays under
  stays-under = rw same

  chosen-under : chosen (under c w) report ≡ chosen (under d w) report
  unfolding chosen sensed fixed_block up_in under
  chosen-under = rw (same, stays-under)

  -- the next walk is equal but for the type too
  stepped-under : stepped (under c w) report ≡ under c (stepped (under d w) report)
  unfolding stepped under
  stepped-under = rw chosen-under

  look-under : ((look_for (under c w) report).number ≡ (look_for (under d w) report).number)
      × ((look_for (under c w) report).walk ≡ under c (look_for (under d w) report).walk)
  unfolding look_for walked_to under pick
  look-under = rw causes-under (refl, go (eqb (first_met (look_causes (under d w) report)) 0))
    where
      go : (t : Bool) → pick t (stepped (under c w) report) (under c w) ≡ under c (pick t (stepped (under d w) report) (under d w))
      go true = stepped-under
      go false = refl

-- and so it is of any two walks that are equal but for the type
look-first : (c d : ℕ) → way_of c ≡ way_of d → (v w : Walk) → EqualButType c d v w → (report : List ℕ)
    → ((look_for v report).number ≡ (look_for w report).number) × ((look_for v report).walk ≡ under c (look_for w report).walk)
look-first c d same v w e report =
    let own = e.1 ∙ ap (under d) e.0 ∙ under_last d c w in
    let look = look-under c d same w report in (
      ap (λ (x : Walk). (look_for x report).number) e.0 ∙ look.0 ∙ sym (ap (λ (x : Walk). (look_for x report).number) own),
      ap (λ (x : Walk). (look_for x report).walk) e.0 ∙ look.1 ∙ sym (ap (λ (x : Walk). under c (look_for x report).walk) own),
    )

-- ## Lists of looks

pub same_way : SameWay
same_way c d same v w e [] = tt
same_way c d same v w e (report ∷ reports) =
    let first = look-first c d same v w e report in
    let next : EqualButType c d (look_for v report).walk (look_for w report).walk =
    (first.1, (look-first d c (sym same) w v (e.1, e.0) report).1) in
    (first.0, next, same_way c d same (look_for v report).walk (look_for w report).walk next reports)

pub empty-as-once : EmptyAsOnce
unfolding look-computes
empty-as-once = same_way 0xFFFF 0x8800 refl
