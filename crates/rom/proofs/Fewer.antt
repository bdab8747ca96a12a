-- Causes that can only vanish leave an accepted list accepted: by induction over the list. Assumes nothing.
use mathlib.Core.Path.{◌≡◌, refl}
use mathlib.Core.Bool.{false}
use mathlib.Core.List.{List, [], ◌∷◌, ◌++◌}
use Rattle.rom.specs.Bytes.{pick}
use Rattle.rom.specs.Refusal.{Cause, first_met, Numbered}
use Rattle.rom.proofs.First.{none_here}

-- the causes of two lists, one by one: each of the second is met only where that of the first is
pub data Fewer : List Cause → List Cause → Type 0 where
  end : Fewer [] []
  and : {c d : Cause} {cs ds : List Cause} → (c.met ≡ false → d.met ≡ false) → Fewer cs ds → Fewer (c ∷ cs) (d ∷ ds)

pub fewer : {cs ds : List Cause} → Numbered cs → Fewer cs ds → first_met cs ≡ 0 → first_met ds ≡ 0
unfolding first_met pick
fewer h end e = refl
fewer p (and {c} {d} {cs} h f) e =
    let n = none_here c cs p.0 e in
    rw (h n.0) (fewer p.1 f n.1)

pub fewer-append : {xs bs cs ds : List Cause} → Fewer xs bs → Fewer cs ds → Fewer (xs ++ cs) (bs ++ ds)
fewer-append end g = g
fewer-append (and h f) g = and h (fewer-append f g)
