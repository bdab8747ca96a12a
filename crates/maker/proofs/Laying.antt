-- What the sheet maker lays in, step by step. Assumes nothing.
use Rattle.std.proofs.Common.{ℕ, ◌+◌, ◌-◌, ◌≡◌, ◌≤◌, ◌<◌, ◌∙◌, refl, sym, ap, ap₂, Bool, List, [], ◌++◌}
use Rattle.std.proofs.Common.{length, take, drop, length-drop, arith, append_assoc}
use mathlib.Core.List.{append-nil}
use lib.ListN.{length-append, drop_of_length-le}
use lib.Seq.{take-add, drop-drop}
use borrow.Rule.Slice.PartMut.{put_mid}
use Rattle.rom.specs.declared.Layout.{Layout}
use Rattle.rom.specs.Store.{put, laid}
use Rattle.rom.proofs.Put.{put-length, put-joined, laid-put}
use Rattle.leaf.proofs.Cuts.{rest_part}
use Rattle.reader.specs.Reading.{Judged}
use Rattle.reader.proofs.Readings.{Accepted}
use Rattle.sheet.specs.Layout.{id_at, chip_at, head_length}
use Rattle.sheet.specs.Record.{Entry}
use Rattle.sheet.specs.Sheet.{body_bytes, parts_of, content_of, sheet_of}
use Rattle.sheet.specs.Image.{newest_in, image_from}
use Rattle.sheet.specs.Make.{sheet_for}
use Rattle.sheet.specs.declared.Form.{Form}
use Rattle.sheet.specs.declared.Form.TheVariants.{Narrow, Wide}
use Rattle.sheet.specs.Form.{shift, largest, counts_of}
use Rattle.sheet.proofs.Sheets.{counts-length}
use Rattle.forms.specs.Counts.{stated_as}
use Rattle.maker.specs.Inside.{front_bytes, field_bytes}
use Rattle.maker.proofs.Sheets.{enough, front_long, field-long, third-room, three-put, image-long, read-count, read-content, content-long}

-- ## The sheet of an image that is read, into a buffer with room

module _ (l : Layout) (edition : Bool) (chip : ℕ) {image : List ℕ} {r : Judged} (c : Accepted image (newest_in l edition chip) r)
    (sheet : List ℕ) (room : id_at + length (content_of (image_from l chip image)) ≤ length sheet) where
  front : length (front_bytes image) ≡ 25
  front = front_long image (enough l image (image-long l edition chip c))

  field : length (field_bytes l chip r.answer image) ≡ 7
  field = field-long l image (image-long l edition chip c) chip r.answer

  all_room : id_at + length (front_bytes image ++ (field_bytes l chip r.answer image ++ parts_of (image_from l chip image).entries))
      ≤ length sheet
  all_room = rw (read-content l edition chip c) room

  pub head-room : head_length ≤ length sheet
  head-room = omega (arith, room, content-long l edition chip c)

  module _ {one : List ℕ} (e₁ : one ≡ put sheet id_at (front_bytes image)) where
    pub fields-room : head_length ≤ length one
    fields-room =
        omega (arith, head-room, ap length e₁ ∙ put-length sheet id_at (front_bytes image) (omega (arith, head-room, front)))

    module _ {two : List ℕ} (e₂ : two ≡ put one chip_at (field_bytes l chip r.answer image)) {es : List Entry}
        (ee : es ≡ (image_from l chip image).entries) where
      pub parts-room : head_length + length (parts_of es) ≤ length two
      parts-room = rw ee (third-room sheet id_at _ _ _ all_room e₁ (omega (arith, front)) e₂ (omega (arith, field)))

      pub content-put : {three : List ℕ} → three ≡ put two head_length (parts_of es)
          → three ≡ put sheet id_at (content_of (image_from l chip image))
      content-put e₃ =
          three-put sheet id_at _ _ _ all_room e₁ (omega (arith, front)) e₂ (omega (arith, field)) (rw ee at e₃)
          ∙ ap (put sheet id_at) (read-content l edition chip c)

-- ## The counts before it

stated-is : (form : Form) (n : ℕ) → n ≤ largest form → stated_as form n ≡ n
stated-is Narrow n h = omega arith
stated-is Wide n h = refl

byte-stated : (form : Form) (n : ℕ) → n < 256 → n ≤ largest form
byte-stated Narrow n h = omega arith
byte-stated Wide n h = omega arith

-- all from a place on is lent, and bytes are put into it
part-put : (xs : List ℕ) (k at : ℕ) (ys : List ℕ)
    → put_mid k (length xs - k) xs (put (take (length xs - k) (drop k xs)) at ys) ≡ put xs (k + at) ys
unfolding put
part-put xs k at ys =
    let rest = rest_part k xs in
    let none : drop (length xs - k) (drop k xs) ≡ [] = drop_of_length-le (drop k xs) {i = length xs - k}
    (omega (arith, length-drop k xs)) in
    ap₂ (λ (a b : List ℕ). take k xs ++ ((take at a ++ (ys ++ drop (at + length ys) a)) ++ b)) rest none
    ∙ ap (λ (a : List ℕ). take k xs ++ a) (append-nil (take at (drop k xs) ++ (ys ++ drop (at + length ys) (drop k xs))))
    ∙ sym (append_assoc (take k xs) (take at (drop k xs)) (ys ++ drop (at + length ys) (drop k xs)))
    ∙ ap₂ (λ (a b : List ℕ). a ++ (ys ++ b)) (sym (take-add k at xs))
    (drop-drop (at + length ys) k xs ∙ ap (λ (n : ℕ). drop n xs) far)
  where
    far : k + (at + length ys) ≡ k + at + length ys
    far = omega arith

module _ (form : Form) (l : Layout) (edition : Bool) (chip : ℕ) {image : List ℕ} {r : Judged}
    (c : Accepted image (newest_in l edition chip) r) (byte : r.answer.blocks < 256) {total : ℕ}
    (bodies : (total ≡ length (body_bytes (image_from l chip image).entries)) × (total ≤ largest form))
    (sheet : List ℕ) (room : length (sheet_for form l image chip) ≤ length sheet) where
  abbrev counts : List ℕ
  counts = counts_of form (length (image_from l chip image).entries) (length (body_bytes (image_from l chip image).entries))

  abbrev content : List ℕ
  content = content_of (image_from l chip image)

  counts-long : length counts ≡ shift form + 2
  counts-long = counts-length form (length (image_from l chip image).entries) (length (body_bytes (image_from l chip image).entries))

  both-fit : length counts + length content ≤ length sheet
  unfolding sheet_of
  both-fit = omega (arith, length-append counts content, room)

  same : counts_of form (stated_as form r.answer.blocks) (stated_as form total) ≡ counts
  same =
      ap₂ (counts_of form) (stated-is form r.answer.blocks (byte-stated form r.answer.blocks byte) ∙ read-count l edition chip c)
      (stated-is form total bodies.1 ∙ bodies.0)

  module _ {n : ℕ} (en : n ≡ r.answer.blocks) {one : List ℕ}
      (e₁ : one ≡ laid sheet 0 (counts_of form (stated_as form n) (stated_as form total))) where
    one-is : one ≡ put sheet 0 counts
    one-is = rw en at e₁ ∙ ap (laid sheet 0) same ∙ laid-put sheet 0 counts (omega (arith, both-fit))

    one-long : length one ≡ length sheet
    one-long = ap length one-is ∙ put-length sheet 0 counts (omega (arith, both-fit))

    module _ {k : ℕ} (ek : k ≡ shift form) where
      pub start_fits : k ≤ length one
      start_fits = omega (arith, one-long, both-fit, counts-long)

      pub content-room : id_at + length content ≤ length (take (length one - k) (drop k one))
      content-room = rw (rest_part k one) (omega (arith, one-long, both-fit, counts-long, length-drop k one))

      pub sheet-put : {part : List ℕ} → part ≡ put (take (length one - k) (drop k one)) id_at content
          → put_mid k (length one - k) one part ≡ put sheet 0 (sheet_for form l image chip)
      unfolding sheet_of
      sheet-put ep =
          put-joined sheet 0 counts content one-is (ap (put_mid k (length one - k) one) ep ∙ part-put one k id_at content)
          (omega (arith, counts-long)) (omega (arith, both-fit))
