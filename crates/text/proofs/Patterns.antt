-- A pattern says one piece for each byte that stands for itself or is a mark: by the values that are left, or by the bytes that
-- it names. Assumes nothing.
use Rattle.std.proofs.Common.{◌≡◌, ℕ, true, false, List, [], ◌∷◌, ◌++◌, length, drop, get_or, Option, Some, None, Bor, Iter}
use Rattle.std.proofs.Common.{refl, sym, ap, ◌∙◌, arith}
use Rattle.std.specs.Option.{unwrap_or, option_map}
use Rattle.std.specs.Slice.Iter.{iter_rest, iter_steps}
use Rattle.rom.specs.Bytes.{pick, byte_at}
use Rattle.text.specs.declared.line.Line.{Line}
use Rattle.text.specs.Numbers.{digit_of}
use Rattle.text.specs.Written.{text_of, fitted, is_mark, spelled_as, piece_of, with_values, value_in, fields_from, with_fields}
use Rattle.text.proofs.Building.{Building, built}

-- the next item, or 0 where there is none
pub next_or_zero : (s t : Iter ℕ) (r : Option (Bor ℕ)) → iter_steps s r t
    → (unwrap_or (option_map (λ x. x.now) r) 0 ≡ get_or (iter_rest s) 0 0) × (iter_rest t ≡ drop 1 (iter_rest s))
next_or_zero s t None h = (none (iter_rest s) h.0, ap iter_rest h.1 ∙ rest (iter_rest s) h.0)
  where
    none : (xs : List ℕ) → length xs ≡ 0 → 0 ≡ get_or xs 0 0
    none [] e = refl
    none (x ∷ xs) e = absurd (omega arith)

    rest : (xs : List ℕ) → length xs ≡ 0 → xs ≡ drop 1 xs
    rest [] e = refl
    rest (x ∷ xs) e = absurd (omega arith)
next_or_zero s t (Some x) h = (ap (λ xs. get_or xs 0 0) (sym h), ap (drop 1) (sym h))

module _ {whole : List ℕ} (l m : Line) (c : ℕ) (cs : List ℕ) where
  module _ (values : List ℕ) (b : Building whole l (with_values values (c ∷ cs))) where
    pub with-mark : {n : ℕ} {rest : List ℕ} → is_mark c ≡ true → n ≡ get_or values 0 0 → rest ≡ drop 1 values
        → text_of m ≡ fitted (text_of l ++ spelled_as c n) → Building whole m (with_values rest cs)
    unfolding with_values piece_of pick
    with-mark t en er e = rw er (built whole (with_values (drop 1 values) cs) (spelled_as c (get_or values 0 0)) (rw t at b) (rw (← en) e))

    pub with-byte : is_mark c ≡ false → text_of m ≡ fitted (text_of l ++ c ∷ []) → Building whole m (with_values values cs)
    unfolding with_values piece_of pick
    with-byte t e = built whole (with_values values cs) (c ∷ []) (rw t at b) e

  module _ (bytes : List ℕ) (b : Building whole l (with_fields bytes (c ∷ cs))) where
    behind_place : (s : List ℕ) → fields_from true bytes s ≡ fields_from false bytes (drop 1 s)
    unfolding fields_from
    behind_place [] = refl
    behind_place (d ∷ ds) = refl

    pub field-mark : {at n : ℕ} {rest : List ℕ} → is_mark c ≡ true → at ≡ digit_of (byte_at cs 0) → n ≡ value_in bytes c at
        → rest ≡ drop 1 cs → text_of m ≡ fitted (text_of l ++ spelled_as c n) → Building whole m (with_fields bytes rest)
    unfolding fields_from piece_of pick
    field-mark t ea en er e =
        rw er (built whole (with_fields bytes (drop 1 cs)) (spelled_as c (value_in bytes c (digit_of (byte_at cs 0))))
        (rw (t, behind_place cs) at b) (rw (← ea, ← en) e))

    pub field-byte : is_mark c ≡ false → text_of m ≡ fitted (text_of l ++ c ∷ []) → Building whole m (with_fields bytes cs)
    unfolding fields_from piece_of pick
    field-byte t e = built whole (with_fields bytes cs) (c ∷ []) (rw t at b) e
