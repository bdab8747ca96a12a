-- A list that is searched from the front: what is left of it answers as the whole does. Assumes nothing.
use Prim.Native.Nat.{ℕ, suc, ◌+◌, ◌≤◌, ◌<◌}
use native.Mathlib.Numerals.{add-one}
use native.Mathlib.Omega.{arith}
use mathlib.Core.Path.{◌≡◌, refl, sym, ◌∙◌}
use mathlib.Core.Bool.{Bool, true, false, ◌||◌}
use mathlib.Core.List.{List, [], ◌∷◌}
use lib.Dec.{eqb, ltb}
use lib.ListN.{length, get_or, drop, drop_of_length-le}
use lib.Seq.{drop-cons}
use borrow.Author.Tests.{eq-eqb, ne_eqb, lt-ltb, le-ltb, ltb-true, ltb-false}
use Rattle.rom.specs.Bytes.{pick, is_in}
use Rattle.format.specs.Chips.{place_of}

-- the place in the whole, from that in what is left after i elements
module _ (x : ℕ) (l : List ℕ) {i n : ℕ} (inv : i + place_of x (drop i l) ≡ n) where
  pub place_here : i < length l → get_or l i 0 ≡ x → i ≡ n
  unfolding place_of pick
  place_here h e = omega (arith, simp (drop-cons l i 0 h, eq-eqb (get_or l i 0) x e) at inv)

  pub place-later : i < length l → (get_or l i 0 ≡ x → ⊥) → i + 1 + place_of x (drop (i + 1) l) ≡ n
  unfolding place_of pick
  place-later h e = let g = simp (drop-cons l i 0 h, ne_eqb (get_or l i 0) x e) at inv in rw add-one (omega arith)

  pub place_none : length l ≤ i → i ≡ n
  unfolding place_of
  place_none h = omega (arith, rw (drop_of_length-le l h) at inv)

-- x is in a list where its place is
pub in_place : (x : ℕ) (l : List ℕ) → ltb (place_of x l) (length l) ≡ is_in x l
unfolding place_of is_in pick
in_place x [] = refl
in_place x (y ∷ ys) = go (eqb y x) (ltb (place_of x ys) (length ys)) refl (in_place x ys)
  where
    go : (t u : Bool) → ltb (place_of x ys) (length ys) ≡ u → ltb (place_of x ys) (length ys) ≡ is_in x ys
        → ltb (pick t 0 (1 + place_of x ys)) (suc (length ys)) ≡ (t || is_in x ys)
    go true u e ih = lt-ltb 0 (suc (length ys)) (omega arith)
    go false true e ih = lt-ltb (1 + place_of x ys) (suc (length ys)) (omega (arith, ltb-true (place_of x ys) (length ys) e)) ∙ sym e ∙ ih
    go false false e ih = le-ltb (1 + place_of x ys) (suc (length ys)) (omega (arith, ltb-false (place_of x ys) (length ys) e)) ∙ sym e ∙ ih
