-- The writer's numbers, as its early returns find them. Assumes nothing.
use Rattle.std.proofs.Common.{ℕ, ◌+◌, ◌≡◌, ◌≤◌, ◌<◌, ◌∙◌, refl, sym, ap, ap₂, Bool, true, false, ◌||◌, not, List, ◌++◌, length, arith}
use Rattle.std.proofs.Common.{eqb, eq-eqb, ne_eqb, lt-ltb, le-ltb}
use Rattle.rom.specs.declared.Layout.{Layout}
use Rattle.rom.specs.declared.refusal.Refusal.{Refusal}
use Rattle.rom.specs.Geometry.{leaves_end}
use Rattle.rom.specs.Numbers.{refusal_number}
use Rattle.rom.specs.Bytes.{pick, is_in}
use Rattle.rom.specs.Refusal.{first_met}
use Rattle.rom.specs.Store.{laid}
use Rattle.rom.proofs.First.{after-accepted, after-refused}
use Rattle.rom.proofs.Put.{laid-whole}
use Rattle.rom.proofs.Reached.{reached, stop, skip}
use Rattle.rom.proofs.Refusals.{not-accepted}
use Rattle.rom.proofs.Truth.{pick_true, pick-false, or-false, or-true}
use Rattle.format.specs.Chips.{chips, row_of}
use Rattle.format.proofs.Lists.{in_place}
use Rattle.image.specs.Image.{header_length}
use Rattle.reader.specs.Reading.{judge_causes}
use Rattle.sheet.specs.Record.{Entry, Plain}
use Rattle.sheet.specs.declared.Form.{Form}
use Rattle.sheet.specs.Form.{is_beyond, shifted, count_in}
use Rattle.sheet.specs.Sheet.{plain_from, sheet_from, is_sheet}
use Rattle.sheet.specs.Image.{leaf_start, encodes, leaf_of, image_of, newest_in}
use Rattle.sheet.specs.Write.{any_bad, stray_control, cannot_hold, too_many_blocks, wrong_output, record_causes, write_causes}
use Rattle.sheet.specs.Write.{write_number, written}
use Rattle.sheet.proofs.Images.{leaf-length}
use Rattle.sheet.proofs.Returns.{writer-order, record-numbered}
use Rattle.writer.specs.Inside.{entry_causes, Writable, issue_number, issued}
use Rattle.writer.proofs.Sheets.{few}

-- ## 7, 25 and 26

-- what is no chip has the row behind the last
module _ (l : Layout) (p : Plain) {row : ℕ} (er : row ≡ row_of p.chip) where
  no-chip : 5 ≤ row → not (is_in p.chip chips) ≡ true
  unfolding row_of chips
  no-chip h = rw (sym (in_place p.chip chips) ∙ le-ltb (row_of p.chip) 5 (omega arith))

  some-chip : row < 5 → not (is_in p.chip chips) ≡ false
  unfolding row_of chips
  some-chip h = rw (sym (in_place p.chip chips) ∙ lt-ltb (row_of p.chip) 5 (omega arith))

  pub record-7 : 5 ≤ row → 7 ≡ first_met (record_causes l p)
  unfolding record_causes
  record-7 h = reached (stop (no-chip h))

  module _ (h : row < 5) {control : ℕ} (ec : control ≡ p.control) where
    stray-is : stray_control (row_of p.chip) p.control ≡ stray_control row control
    stray-is = ap₂ stray_control (sym er) (sym ec)

    pub record-25 : stray_control row control ≡ true → 25 ≡ first_met (record_causes l p)
    unfolding record_causes cannot_hold
    record-25 e = reached (skip (some-chip h) (stop (rw (stray-is ∙ e) (or-true (any_bad (row_of p.chip) p.entries)))))

    pub record-entries : stray_control row control ≡ false → {n limit m : ℕ} {es : List Entry} → limit ≡ leaves_end l
        → m ≡ header_length row → es ≡ p.entries
        → n ≡ first_met (entry_causes limit row (leaf_start + m) es) → n ≡ first_met (record_causes l p)
    unfolding record_causes entry_causes cannot_hold first_met
    record-entries e {n} {limit} {m} {es} el em ee en =
        let held : any_bad row es ≡ (any_bad (row_of p.chip) p.entries || stray_control (row_of p.chip) p.control)
        = ap₂ any_bad er ee ∙ sym (or-none (any_bad (row_of p.chip) p.entries) (stray_control (row_of p.chip) p.control) (stray-is ∙ e)) in
        let k : m ≡ header_length (row_of p.chip) = em ∙ ap header_length er in
        let ends : (leaf_start + m) + length (encodes es) ≡ leaf_start + length (leaf_of p)
        = omega (arith, leaf-length p, ap (λ (x : List Entry). length (encodes x)) ee) in
        en ∙ rw (el, held, ends) (sym (pick-false (not (is_in p.chip chips)) _ _ (some-chip h)))
      where
        or-none : (a b : Bool) → b ≡ false → (a || b) ≡ a
        or-none true b e = refl
        or-none false b e = e

-- ## What a refusal leaves

module _ (form : Form) (l : Layout) (edition : Bool) (s out : List ℕ) where
  pub output-kept : (r : Refusal) → refusal_number r ≡ write_number form l edition s out
      → (refusal_number r ≡ write_number form l edition s out) × (out ≡ written form l edition s out)
  unfolding written
  output-kept r e =
      (e, sym (pick-false _ _ _ (ne_eqb (write_number form l edition s out) 0 (λ h. not-accepted r (e ∙ h)))))

  -- ## The whole list

  pub write-24 : is_sheet form s ≡ false → 24 ≡ write_number form l edition s out
  write-24 h = sym ((writer-order form l edition s out).0 h)

  pub write-33 : is_sheet form s ≡ true → too_many_blocks form s ≡ true → 33 ≡ write_number form l edition s out
  write-33 is h = sym (((writer-order form l edition s out).1 is).0 h)

  pub write-1 : is_sheet form s ≡ true → too_many_blocks form s ≡ false → wrong_output form l (length out) ≡ true
      → 1 ≡ write_number form l edition s out
  write-1 is few h = sym ((((writer-order form l edition s out).1 is).1 few).0 h)

-- a sheet past 24, 33 and 1, with the count and the part of it that the code hands on
pub record Passed (form : Form) (l : Layout) (s out : List ℕ) (n : ℕ) (t : List ℕ) : Type 0 where
  pub is : is_sheet form s ≡ true
  pub few : too_many_blocks form s ≡ false
  pub right : wrong_output form l (length out) ≡ false
  pub count : n ≡ count_in form s
  pub part : t ≡ shifted form s

pub passed : (form : Form) (l : Layout) (s out : List ℕ) → is_sheet form s ≡ true → {m : ℕ} → m ≡ count_in form s
    → {n : ℕ} → (m < 256) × (n ≡ m) → wrong_output form l (length out) ≡ false → {t : List ℕ} → t ≡ shifted form s
    → Passed form l s out n t
passed form l s out is em en right et =
    record { is = is; few = few form s _ em (omega arith); right = right; count = en.1 ∙ em; part = et }

module _ {form : Form} {l : Layout} {s out : List ℕ} {n : ℕ} {t : List ℕ} (p : Passed form l s out n t) where
  pub passed-writable : first_met (record_causes l (plain_from n t)) ≡ 0 → Writable l n t out
  unfolding wrong_output
  passed-writable z = record { right = (or-false (is_beyond form l.size) _ p.right).1; number = z }

  behind : (edition : Bool) → write_number form l edition s out
      ≡ first_met (record_causes l (sheet_from form s)
      ++ judge_causes (image_of l (sheet_from form s) out) (newest_in l edition (sheet_from form s).chip))
  unfolding write_number write_causes first_met
  behind edition =
      pick-false (not (is_sheet form s)) _ _ (ap not p.is) ∙ pick-false (too_many_blocks form s) _ _ p.few
      ∙ pick-false (wrong_output form l (length out)) _ _ p.right

  same : plain_from n t ≡ sheet_from form s
  same = ap₂ plain_from p.count p.part

  pub write-record : (edition : Bool) (r : Refusal) → refusal_number r ≡ first_met (record_causes l (plain_from n t))
      → (refusal_number r ≡ write_number form l edition s out) × (out ≡ written form l edition s out)
  write-record edition r e =
      output-kept form l edition s out r
      (sym (behind edition ∙ after-refused (record_causes l (sheet_from form s)) _ (refusal_number r) (not-accepted r)
      (sym (e ∙ ap (λ (q : Plain). first_met (record_causes l q)) same))))

  -- the reader's number is left
  pub write-issued : (edition : Bool) → first_met (record_causes l (plain_from n t)) ≡ 0 → {r : ℕ} {left : List ℕ}
      → r ≡ issue_number l edition (plain_from n t) out → left ≡ issued l edition (plain_from n t) out
      → (r ≡ write_number form l edition s out) × (left ≡ written form l edition s out)
  unfolding issue_number issued written
  write-issued edition z er el =
      let number : issue_number l edition (sheet_from form s) out ≡ write_number form l edition s out
      = sym (behind edition ∙ after-accepted (record_causes l (sheet_from form s)) _ (record-numbered l (sheet_from form s))
      (ap (λ (q : Plain). first_met (record_causes l q)) (sym same) ∙ z)) in (
        er ∙ ap (λ (q : Plain). issue_number l edition q out) same ∙ number,
        el ∙ ap (λ (q : Plain). issued l edition q out) same
            ∙ ap (λ (k : ℕ). pick (eqb k 0) (image_of l (sheet_from form s) out) out) number,
      )

-- ## The built image judged

module _ (l : Layout) (edition : Bool) (p : Plain) (out : List ℕ) {built : List ℕ} (eb : built ≡ image_of l p out)
    {chip : ℕ} (ec : chip ≡ p.chip) where
  judged : first_met (judge_causes built (newest_in l edition chip)) ≡ issue_number l edition p out
  unfolding issue_number
  judged = ap₂ (λ (x : List ℕ) (c : ℕ). first_met (judge_causes x (newest_in l edition c))) eb ec

  pub issue-refused : {n : ℕ} → (n ≡ 0 → ⊥) → n ≡ first_met (judge_causes built (newest_in l edition chip))
      → (n ≡ issue_number l edition p out) × (out ≡ issued l edition p out)
  unfolding issued
  issue-refused z e = (e ∙ judged, sym (pick-false _ _ _ (ne_eqb (issue_number l edition p out) 0 (λ x. z (e ∙ judged ∙ x)))))

  pub issue-copied : 0 ≡ first_met (judge_causes built (newest_in l edition chip)) → length built ≡ length out → {left : List ℕ}
      → left ≡ laid out 0 built → (0 ≡ issue_number l edition p out) × (left ≡ issued l edition p out)
  unfolding issued
  issue-copied e long el = (
    e ∙ judged,
    el ∙ laid-whole out built long ∙ eb ∙ sym (pick_true _ _ _ (eq-eqb (issue_number l edition p out) 0 (sym (e ∙ judged)))),
  )
