-- What the sheet maker answers and leaves. Assumes nothing.
use Rattle.std.proofs.Common.{ℕ, ◌+◌, ◌*◌, ◌≡◌, ◌≤◌, ◌<◌, ◌∙◌, refl, sym, ap, Bool, true, false, not, List, [], ◌∷◌, length, arith, Ok}
use Rattle.std.proofs.Common.{ltb, lt-ltb, le-ltb, zero-add}
use Rattle.rom.specs.declared.Layout.{Layout}
use Rattle.rom.specs.Geometry.{image_length}
use Rattle.rom.specs.Bytes.{pick}
use Rattle.rom.specs.Store.{put}
use Rattle.rom.specs.Refusal.{◌⇒◌, first_met}
use Rattle.rom.proofs.Layouts.{geometry, small-length}
use Rattle.rom.proofs.First.{after-accepted}
use Rattle.rom.proofs.Reached.{reached, end, stop, skip, among}
use Rattle.rom.proofs.Truth.{pick-false}
use Rattle.reader.specs.Reading.{Judged, judge_causes, judged_reading}
use Rattle.reader.proofs.Readings.{accepted-judged}
use Rattle.reader.proofs.Promised.{judge-numbered}
use Rattle.sheet.specs.Lists.{over}
use Rattle.sheet.specs.Layout.{head_length}
use Rattle.sheet.specs.Sheet.{body_bytes}
use Rattle.sheet.specs.Image.{newest_in, image_from, leaf_end, is_tidy}
use Rattle.sheet.specs.Make.{sheet_for, make_causes, make_number, make_length, made, made_for, made_of}
use Rattle.sheet.specs.declared.Made.{Made}
use Rattle.sheet.specs.declared.Form.{Form}
use Rattle.sheet.specs.declared.Form.TheVariants.{Narrow, Wide}
use Rattle.sheet.specs.Form.{is_beyond, shift, largest}
use Rattle.forms.proofs.Refusals.{refused-leaves}
use Rattle.maker.specs.Inside.{is_tidy_from}
use Rattle.maker.proofs.Sheets.{read-long}

-- a narrow sheet's total is a byte: its image is of the smaller size
pub small-total : (form : Form) (l : Layout) (n : ℕ) → is_beyond form l.size ≡ false → n ≤ image_length l.size → n ≤ largest form
unfolding is_beyond
small-total Narrow l n h f = omega (arith, small-length l.size h)
small-total Wide l n h f = let g = geometry l in omega arith

-- ## Why there is no sheet

module _ (form : Form) (l : Layout) (edition : Bool) (image : List ℕ) (chip : ℕ) where
  pub refused : (buffer : List ℕ) {n : ℕ} → (n ≡ 0 → ⊥) → n ≡ make_number form l edition image chip (length buffer)
      → (◌≡◌ {A = Made} (record { number = n; length = 0 }) (made_for form l edition image chip (length buffer)))
      × (buffer ≡ made form l edition image chip buffer)
  unfolding made_for make_length made
  refused buffer z e = refused-leaves (make_number form l edition image chip (length buffer)) (sheet_for form l image chip) buffer z e

  pub make-other : (room : ℕ) → is_beyond form l.size ≡ true → 1 ≡ make_number form l edition image chip room
  unfolding make_number make_causes
  make-other room h = reached (stop h)

  module _ (served : is_beyond form l.size ≡ false) where
    pub make-unread : (room : ℕ) {n : ℕ} → (n ≡ 0 → ⊥) → n ≡ first_met (judge_causes image (newest_in l edition chip))
        → n ≡ make_number form l edition image chip room
    unfolding make_number make_causes
    make-unread room z e = reached (skip served (among (judge_causes image (newest_in l edition chip)) _ z (sym e)))

    module _ (read : 0 ≡ first_met (judge_causes image (newest_in l edition chip))) where
      behind : (room : ℕ) → make_number form l edition image chip room
          ≡ first_met ((27 ⇒ not (is_tidy l chip image)) ∷ (12 ⇒ ltb room (length (sheet_for form l image chip))) ∷ [])
      unfolding make_number make_causes first_met
      behind room =
          pick-false (is_beyond form l.size) _ _ served
          ∙ after-accepted (judge_causes image (newest_in l edition chip)) _ (judge-numbered image (newest_in l edition chip)) (sym read)

      -- the leaf's end as it was found
      module _ {at : ℕ} (ea : at ≡ leaf_end l chip image) where
        tidy-is : is_tidy_from l at image ≡ is_tidy l chip image
        unfolding is_tidy_from is_tidy
        tidy-is = rw ea refl

        pub make-untidy : (room : ℕ) → is_tidy_from l at image ≡ false → 27 ≡ make_number form l edition image chip room
        make-untidy room e = reached (stop (ap not (sym tidy-is ∙ e))) ∙ sym (behind room)

        module _ (tidy : is_tidy_from l at image ≡ true) {n : ℕ} (en : n ≡ length (sheet_for form l image chip)) where
          pub make-short : (room : ℕ) → room < n → 12 ≡ make_number form l edition image chip room
          make-short room h =
              reached (skip (ap not (sym tidy-is ∙ tidy)) (stop (lt-ltb room (length (sheet_for form l image chip)) (omega (arith, en)))))
              ∙ sym (behind room)

          pub make-done : (buffer : List ℕ) → n ≤ length buffer → {last : List ℕ} → last ≡ put buffer 0 (sheet_for form l image chip)
              → (made_of (Ok n) ≡ made_for form l edition image chip (length buffer)) × (last ≡ made form l edition image chip buffer)
          unfolding made_for make_length made put over pick
          make-done buffer h el =
              let z : 0 ≡ make_number form l edition image chip (length buffer)
              = reached (skip (ap not (sym tidy-is ∙ tidy))
              (skip (le-ltb (length buffer) (length (sheet_for form l image chip)) (omega (arith, en))) end))
              ∙ sym (behind (length buffer)) in
              (rw (← z, en) refl, el ∙ rw (← z, zero-add) refl)

-- ## How long the sheet is

pub made-length-is : (form : Form) (l : Layout) (edition : Bool) (image : List ℕ) (chip : ℕ) {r : Judged}
    → r ≡ judged_reading image (newest_in l edition chip) → r.answer.number ≡ 0 → {k n total : ℕ} → k ≡ shift form → n ≡ r.answer.blocks
    → total ≡ length (body_bytes (image_from l chip image).entries)
    → k + head_length + 3 * n + total ≡ length (sheet_for form l image chip)
made-length-is form l edition image chip {r} er z ek en et =
    rw (ek, en, et) (sym (read-long l edition chip (accepted-judged image (newest_in l edition chip) r er z) form))
