-- What the converters answer and lay in, step by step. Assumes nothing.
use Rattle.std.proofs.Common.{ℕ, ◌+◌, ◌-◌, ◌≡◌, ◌<◌, ◌≤◌, ◌∙◌, refl, sym, ap, ap₂, true, false, List, length, take, drop, length-drop}
use Rattle.std.proofs.Common.{arith, ltb, ltb-false, zero-add, Ok, Err}
use lib.Seq.{take_all}
use Rattle.rom.specs.declared.refusal.Refusal.{Refusal}
use Rattle.rom.specs.Numbers.{refusal_number}
use Rattle.rom.specs.Bytes.{pick}
use Rattle.rom.specs.Store.{put, laid}
use Rattle.rom.proofs.Put.{put-length, put-joined, laid-put}
use Rattle.rom.proofs.Refusals.{not-accepted}
use Rattle.rom.proofs.Truth.{or-false}
use Rattle.sheet.specs.declared.Form.{Form}
use Rattle.sheet.specs.declared.Form.TheVariants.{Narrow, Wide}
use Rattle.sheet.specs.Lists.{over}
use Rattle.sheet.specs.Form.{other, shift, shifted, count_in, total_in, counts_of}
use Rattle.sheet.specs.Sheet.{is_sheet}
use Rattle.sheet.specs.Make.{made_of}
use Rattle.sheet.specs.Convert.{converted, too_large, convert_number, convert_length, converted_in, converted_for}
use Rattle.sheet.proofs.Sheets.{counts-length, sheet-long}
use Rattle.sheet.proofs.Conversions.{content, converted-length, converter-order}
use Rattle.forms.specs.Counts.{stated_as}
use Rattle.forms.proofs.Refusals.{refused-leaves}

-- what is not too large keeps its counts
stated-counts : (from : Form) (s : List ℕ) → too_large from s ≡ false
    → (stated_as (other from) (count_in from s) ≡ count_in from s) × (stated_as (other from) (total_in from s) ≡ total_in from s)
unfolding too_large
stated-counts Narrow s h = (refl, refl)
stated-counts Wide s h =
    let b = or-false (ltb 255 (count_in Wide s)) _ h in
    let n = ltb-false 255 (count_in Wide s) b.0 in
    let t = ltb-false 255 (total_in Wide s) b.1 in
    (omega (arith, n), omega (arith, t))

-- ## A refusal

module _ (from : Form) (s : List ℕ) where
  pub refused : (buffer : List ℕ) (r : Refusal) → refusal_number r ≡ convert_number from s (length buffer)
      → (made_of (Err r) ≡ converted_for from s (length buffer)) × (buffer ≡ converted_in from s buffer)
  unfolding converted_for convert_length converted_in
  refused buffer r e = refused-leaves (convert_number from s (length buffer)) (converted from s) buffer (not-accepted r) e

  pub convert-24 : (room : ℕ) → is_sheet from s ≡ false → 24 ≡ convert_number from s room
  convert-24 room h = sym ((converter-order from s room).0 h)

  pub convert-33 : (room : ℕ) → is_sheet from s ≡ true → too_large from s ≡ true → 33 ≡ convert_number from s room
  convert-33 room is h = sym (((converter-order from s room).1 is).0 h)

-- ## The new sheet

-- all that follows the counts as it is lent, behind as many bytes as the new sheet's counts have
module _ (from : Form) (s : List ℕ) (is : is_sheet from s ≡ true) {t : List ℕ} (et : t ≡ shifted from s) {k : ℕ}
    (ek : k ≡ shift (other from)) where
  pub content-start : 2 ≤ length t
  content-start = omega (arith, sheet-long from s is, ap length et, length-drop (shift from) s)

  content-is : take (length t - 2) (drop 2 t) ≡ content from s
  content-is = take_all (length t - 2) (drop 2 t) (omega (arith, length-drop 2 t)) ∙ ap (drop 2) et

  abbrev new-length : ℕ
  new-length = k + 2 + length (take (length t - 2) (drop 2 t))

  length-is : new-length ≡ length (converted from s)
  length-is = omega (arith, ek, ap length content-is, converted-length from s)

  module _ (buffer : List ℕ) (small : too_large from s ≡ false) where
    pub convert-12 : length buffer < new-length → 12 ≡ convert_number from s (length buffer)
    convert-12 h = sym ((((converter-order from s (length buffer)).1 is).1 small).0 (omega (arith, length-is)))

    sheet-put : length (converted from s) ≤ length buffer
        → {n m : ℕ} {form : Form} {one two : List ℕ} → n ≡ count_in from s → m ≡ total_in from s → form ≡ other from
        → one ≡ laid buffer 0 (counts_of form (stated_as form n) (stated_as form m))
        → two ≡ laid one (k + 2) (take (length t - 2) (drop 2 t)) → two ≡ put buffer 0 (converted from s)
    unfolding converted
    sheet-put fits {n} {m} {form} {one} {two} en em ef e₁ e₂ =
        let stated = stated-counts from s small in
        let c = counts_of (other from) (count_in from s) (total_in from s) in
        let l : length c ≡ k + 2 = omega (arith, ek, counts-length (other from) (count_in from s) (total_in from s)) in
        let f : k + 2 + length (content from s) ≤ length buffer = omega (arith, ek, converted-length from s) in
        let same : counts_of form (stated_as form n) (stated_as form m) ≡ c
        = rw (ef, en, em) (ap₂ (counts_of (other from)) stated.0 stated.1) in
        let a : one ≡ put buffer 0 c = e₁ ∙ ap (laid buffer 0) same ∙ laid-put buffer 0 c (omega (arith, l)) in
        let long : length one ≡ length buffer = ap length a ∙ put-length buffer 0 c (omega (arith, l)) in
        let b : two ≡ put one (k + 2) (content from s)
        = e₂ ∙ ap (laid one (k + 2)) content-is ∙ laid-put one (k + 2) (content from s) (omega (arith, long)) in
        put-joined buffer 0 c (content from s) a b (omega (arith, l)) (omega (arith, l))

    pub convert-done : new-length ≤ length buffer
        → {n m : ℕ} {form : Form} {one two : List ℕ} → n ≡ count_in from s → m ≡ total_in from s → form ≡ other from
        → one ≡ laid buffer 0 (counts_of form (stated_as form n) (stated_as form m))
        → two ≡ laid one (k + 2) (take (length t - 2) (drop 2 t))
        → (made_of (Ok new-length) ≡ converted_for from s (length buffer)) × (two ≡ converted_in from s buffer)
    unfolding converted_for convert_length converted_in put over pick
    convert-done h en em ef e₁ e₂ =
        let f : convert_number from s (length buffer) ≡ 0
        = (((converter-order from s (length buffer)).1 is).1 small).1 (omega (arith, length-is)) in
        (rw (f, length-is), sheet-put (omega (arith, length-is)) en em ef e₁ e₂ ∙ rw (f, zero-add))
