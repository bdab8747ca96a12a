-- The names of bits, one by one: that of the lowest bit that is left, and then the rest. Assumes nothing.
use Rattle.std.proofs.Common.{◌≡◌, ℕ, ◌+◌, ◌/◌, ◌%◌, ◌≤◌, ◌<◌, refl, List, ◌∷◌, ◌++◌, map, length, get_or, drop, Bor, add-one, drop-cons}
use Rattle.std.proofs.Math.ListN.{drop_of_length-le}
use borrow.Author.Tests.{eq-eqb, ne_eqb}
use Rattle.rom.specs.Bytes.{pick}
use Rattle.text.specs.declared.line.Line.{Line}
use Rattle.text.specs.Written.{text_of, fitted}
use Rattle.text.proofs.Building.{Building, built, line-finished}
use Rattle.report.specs.Words.{set_names}

abbrev pub bits_spelled : List (Bor (List ℕ)) → List (List ℕ)
bits_spelled names = map (λ n. n.now) names

next_name : (names : List (Bor (List ℕ))) (i : ℕ) (d : Bor (List ℕ)) → i < length names
    → bits_spelled (drop i names) ≡ (get_or names i d).now ∷ bits_spelled (drop (i + 1) names)
next_name names i d h = rw (add-one, drop-cons names i d) refl

module _ (names : List (Bor (List ℕ))) (next other : List ℕ) (bits i : ℕ) {whole : List ℕ} {l : Line}
    (b : Building whole l (set_names (bits_spelled (drop i names)) next other bits)) where
  pub set : {m : Line} → i < length names → (d : Bor (List ℕ)) → bits % 2 ≡ 1
      → text_of m ≡ fitted (text_of l ++ (next ++ (get_or names i d).now))
      → Building whole m (set_names (bits_spelled (drop (i + 1) names)) other other (bits / 2))
  unfolding set_names pick
  set {m} h d t e =
      built whole (set_names (bits_spelled (drop (i + 1) names)) other other (bits / 2)) (next ++ (get_or names i d).now)
      (rw (next_name names i d h, eq-eqb _ _ t) at b) e

  pub clear : i < length names → (d : Bor (List ℕ)) → (bits % 2 ≡ 1 → ⊥)
      → Building whole l (set_names (bits_spelled (drop (i + 1) names)) next other (bits / 2))
  unfolding set_names pick
  clear h d t = rw (next_name names i d h, ne_eqb _ _ t) at b

  pub done : length names ≤ i → text_of l ≡ fitted whole
  unfolding set_names
  done h = line-finished (set_names (bits_spelled (drop i names)) next other bits) (rw drop_of_length-le refl) b
