-- The parts of a sheet whose length and sum are right. Assumes nothing.
use Rattle.std.proofs.Common.{ℕ, ◌+◌, ◌*◌, ◌-◌, ◌≡◌, ◌≤◌, ◌∙◌, refl, ap, ap₂, List, length, take, drop, length-drop, arith}
use lib.Seq.{drop-drop, length-take-le, take_all}
use Rattle.sheet.specs.Lists.{sum}
use Rattle.sheet.specs.Layout.{head_length}
use Rattle.sheet.specs.Sheet.{kinds_in, sizes_in, bodies_in, entries_from, plain_from}
use Rattle.sheet.proofs.Sheets.{SizedFields, from-sized}
use Rattle.writer.specs.Inside.{Counted, Parts}
use Rattle.writer.proofs.Left.{entries-front}

module _ {n : ℕ} {s : List ℕ} (w : Counted n s) where
  pub has-head : head_length ≤ length s
  has-head = omega (arith, w.long)

  pub sized-fields : SizedFields (plain_from n s)
  sized-fields = from-sized _ _ _ (record { long = w.long; total = refl })

  -- as they are split off
  module _ {all kinds rest sizes bodies : List ℕ} {two k : ℕ} (ea : all ≡ take (length s - head_length) (drop head_length s))
      (e₂ : two ≡ 2 * n) (ek : k ≡ n)
      (e-kinds : kinds ≡ take two all) (e-rest : rest ≡ drop two all) (e-sizes : sizes ≡ take k rest)
      (e-bodies : bodies ≡ drop k rest) where
    all-is : all ≡ kinds_in s
    all-is = ea ∙ take_all (length s - head_length) (drop head_length s) (omega (arith, length-drop head_length s))

    rest-is : rest ≡ sizes_in n s
    rest-is = e-rest ∙ ap₂ drop e₂ all-is ∙ drop-drop (2 * n) head_length s

    bodies-is : bodies ≡ bodies_in n s
    bodies-is =
        e-bodies ∙ ap₂ drop ek rest-is ∙ drop-drop n (head_length + 2 * n) s
        ∙ ap (λ (m : ℕ). drop m s) three
      where
        three : head_length + 2 * n + n ≡ head_length + 3 * n
        three = omega arith

    sizes_fit : k ≤ length rest
    sizes_fit = omega (arith, ap length rest-is, length-drop (head_length + 2 * n) s, w.long)

    size-count : length sizes ≡ n
    size-count = ap length e-sizes ∙ length-take-le k rest sizes_fit ∙ ek

    pub counted-parts : Parts kinds sizes bodies
    counted-parts =
        record {
          for_kinds = omega (
            arith,
            size-count,
            ap length e-kinds ∙ length-take-le two all (omega (arith, e₂, ap length all-is, length-drop head_length s, w.long)),
            e₂,
          );
          for_bodies = omega (
            arith,
            ap sum (e-sizes ∙ ap₂ take ek rest-is),
            ap length bodies-is,
            length-drop (head_length + 3 * n) s,
            w.long,
          );
        }

    pub counted-entries : entries_from (length sizes) kinds sizes bodies ≡ (plain_from n s).entries
    unfolding plain_from
    counted-entries =
        rw (size-count, bodies-is)
        (ap₂ (λ (x y : List ℕ). entries_from n x y (bodies_in n s)) (e-kinds ∙ ap₂ take e₂ all-is) (e-sizes ∙ ap₂ take ek rest-is)
        ∙ entries-front n (kinds_in s) (sizes_in n s) (bodies_in n s) (omega (arith, w.long, length-drop head_length s))
        (omega (arith, w.long, length-drop (head_length + 2 * n) s)))
