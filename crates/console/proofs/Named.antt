-- A table with a line for each thing, its name, a blank and its number, has behind a word the number of the first thing whose name
-- the word is: by induction over the things. Assumes nothing.
use Prim.Native.Nat.{ℕ, zero, suc}
use mathlib.Core.Path.{◌≡◌, refl, ap, ◌∙◌}
use mathlib.Core.Bool.{Bool, true, false, ◌&&◌, cond}
use mathlib.Core.List.{List, [], ◌∷◌, ◌++◌, map}
use lib.Dec.{eqb}
use lib.ListN.{length, drop}
use Rattle.std.specs.Prelude.{Option, Some, None}
use Rattle.std.specs.Str.{bytes_eq}
use Rattle.std.specs.List.{find}
use Rattle.std.proofs.lemmas.Bool.{or_parts}
use Rattle.std.proofs.lemmas.Slice.Eq.{bytes_eq-Decides}
use Rattle.rom.specs.Bytes.{pick, byte_at, is_in}
use Rattle.text.specs.Slices.{same_bytes}
use Rattle.text.specs.Numbers.{no_number, decimal_number, decimal_of}
use Rattle.text.specs.Tables.{blank, has_key, words_in}

-- no character is a blank
abbrev pub Unbroken : List ℕ → Type 0
Unbroken s = is_in blank s ≡ false

unbroken_at : (s : List ℕ) (i : ℕ) → Unbroken s → eqb (byte_at s i) blank ≡ false
unfolding is_in
unbroken_at [] i h = refl
unbroken_at (c ∷ cs) zero h = (or_parts (eqb c blank) (is_in blank cs) h).0
unbroken_at (c ∷ cs) (suc i) h = unbroken_at cs i (or_parts (eqb c blank) (is_in blank cs) h).1

and_turned : (a b c : Bool) → (a && (b && c)) ≡ (b && (a && c))
and_turned true b c = refl
and_turned false true c = refl
and_turned false false c = refl

abbrev pub line_for : List ℕ → List ℕ → List ℕ
line_for name digits = name ++ blank ∷ digits

pub key_is_name : (name digits word : List ℕ) → Unbroken name → Unbroken digits
    → has_key word (line_for name digits) ≡ bytes_eq name word
unfolding has_key same_bytes is_in
key_is_name [] digits [] n d = refl
key_is_name [] digits (w ∷ ws) n d = rw (unbroken_at digits (length ws) d)
key_is_name (x ∷ xs) digits [] n d = rw (unbroken_at (x ∷ xs) 0 n)
key_is_name (x ∷ xs) digits (w ∷ ws) n d =
    and_turned (eqb (byte_at (line_for xs digits) (length ws)) blank) (eqb x w) _
    ∙ ap (λ t. eqb x w && t) (key_is_name xs digits ws (or_parts (eqb x blank) (is_in blank xs) n).1 d)

behind_name : (name digits : List ℕ) → drop 1 (drop (length name) (line_for name digits)) ≡ digits
behind_name [] digits = refl
behind_name (x ∷ xs) digits = behind_name xs digits

module _ {C : Type 0} (name : C → List ℕ) (number : C → ℕ) where
  abbrev line : C → List ℕ
  line c = line_for (name c) (decimal_of (number c))

  -- a thing's line reads as it should
  abbrev pub Reads : C → Type 0
  Reads c = Unbroken (name c) × Unbroken (decimal_of (number c)) × (decimal_number (decimal_of (number c)) ≡ number c)

  abbrev pub lines_for : List C → List (List ℕ)
  lines_for = map line

  abbrev pub first_named : List ℕ → List C → Option C
  first_named word = find (λ c. bytes_eq (name c) word)

  abbrev pub number_of_found : Option C → ℕ
  number_of_found None = no_number
  number_of_found (Some c) = number c

  module _ (reads : (c : C) → Reads c) (word : List ℕ) where
    pub number_of_first : (cs : List C)
        → decimal_number (words_in word (lines_for cs)) ≡ number_of_found (first_named word cs)
    unfolding words_in pick decimal_number
    number_of_first [] = refl
    number_of_first (c ∷ cs) =
        rw (key_is_name (name c) (decimal_of (number c)) word (reads c).0 (reads c).1)
        (go (bytes_eq (name c) word) refl (number_of_first cs))
      where
        go : (t : Bool) → bytes_eq (name c) word ≡ t
            → decimal_number (words_in word (lines_for cs)) ≡ number_of_found (first_named word cs)
            → decimal_number (pick t (drop 1 (drop (length word) (line c))) (words_in word (lines_for cs)))
            ≡ number_of_found (cond t (Some c) (first_named word cs))
        go true e later =
            rw (← (bytes_eq-Decides (name c) word).0 e, behind_name (name c) (decimal_of (number c))) (reads c).2
        go false e later = later
