-- Sums of body sizes, and 24 as the code finds it. Assumes nothing.
use Rattle.std.proofs.Common.{ℕ, ◌+◌, ◌*◌, ◌-◌, ◌≡◌, ◌∙◌, ap, ap₂, sym, refl, arith, List, [], ◌∷◌, length, take, drop, eqb, eq-eqb, ne_eqb}
use Rattle.std.specs.List as std
use Rattle.std.proofs.lemmas.List.Sums.{sum_by-cons}
use Rattle.std.proofs.Math.Seq.{drop-drop}
use Rattle.sheet.specs.declared.Form.{Form}
use Rattle.sheet.specs.Lists.{sum}
use Rattle.sheet.specs.Layout.{head_length}
use Rattle.sheet.specs.Form.{shift, shifted, count_in, total_in}
use Rattle.sheet.specs.Sheet.{sizes_in, is_sheet}

-- the sum is the library's
pub summed : (s : List ℕ) → std.sum s ≡ sum s
unfolding sum
summed [] = refl
summed (x ∷ s) = sum_by-cons (λ (y : ℕ). y) x s ∙ ap (λ (n : ℕ). x + n) (summed s)

-- ## 24

module _ (form : Form) (s : List ℕ) (k n t : ℕ) (ek : k ≡ shift form) (en : n ≡ count_in form s) (et : t ≡ total_in form s) where
  pub wrong-length : (length s ≡ k + head_length + 3 * n + t → ⊥) → eqb (length s) (k + head_length + 3 * n + t) ≡ is_sheet form s
  unfolding is_sheet
  wrong-length h =
      let f : length s ≡ shift form + (head_length + 3 * count_in form s + total_in form s) → ⊥ = λ e. h (omega arith) in
      rw (ne_eqb _ _ h, ne_eqb (length s) (shift form + (head_length + 3 * count_in form s + total_in form s)) f)

  pub sum-decides : (m : ℕ) → length s ≡ k + head_length + 3 * n + t
      → m ≡ std.sum (take (k + head_length + 3 * n - (k + head_length + 2 * n)) (drop (k + head_length + 2 * n) s))
      → eqb t m ≡ is_sheet form s
  unfolding is_sheet
  sum-decides m l em =
      let c : k + head_length + 3 * n - (k + head_length + 2 * n) ≡ count_in form s = omega arith in
      let d : k + head_length + 2 * n ≡ shift form + (head_length + 2 * count_in form s) = omega arith in
      let is : m ≡ sum (take (count_in form s) (sizes_in (count_in form s) (shifted form s)))
      = em ∙ summed _ ∙ ap₂ (λ (a b : ℕ). sum (take a (drop b s))) c d
      ∙ ap (λ (x : List ℕ). sum (take (count_in form s) x)) (sym (drop-drop (head_length + 2 * count_in form s) (shift form) s)) in
      let e : length s ≡ shift form + (head_length + 3 * count_in form s + total_in form s) = omega arith in
      rw (eq-eqb (length s) (shift form + (head_length + 3 * count_in form s + total_in form s)) e)
      (ap₂ eqb et is)
