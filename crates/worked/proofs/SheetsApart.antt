-- The writer's and the sheet maker's numbers, 3 and 4 apart: an image that is written has its CRCs, and where it is not, an
-- earlier cause is met. Assumes nothing.
use Prim.Native.Nat.{ℕ, ◌+◌, ◌≤◌}
use mathlib.Core.Path.{◌≡◌, sym, ap, ◌∙◌}
use mathlib.Core.Bool.{Bool, not}
use mathlib.Core.List.{List, ◌∷◌, ◌++◌, append_assoc}
use native.Mathlib.Omega.{arith}
use lib.ListN.{length, drop}
use lib.Seq.{get_or_at}
use lib.Dec.{lit<}
use borrow.Author.Tests.{ltb-false, not-false}
use Rattle.rom.specs.declared.Layout.{Layout}
use Rattle.rom.specs.Geometry.{board_length, leaves_end, id_crc_at}
use Rattle.rom.specs.Bytes.{byte_at}
use Rattle.rom.specs.Store.{word_bytes}
use Rattle.rom.specs.Refusal.{Cause, ◌⇒◌, first_met, Numbered}
use Rattle.rom.proofs.First.{none_here, both-accepted}
use Rattle.checksum.specs.Crc.{id_crc}
use Rattle.image.specs.Image.{image_causes}
use Rattle.image.specs.Arguments.{header_causes}
use Rattle.reader.specs.Reading.{judge_causes}
use Rattle.sheet.specs.declared.Form.{Form}
use Rattle.sheet.specs.Record.{Plain}
use Rattle.sheet.specs.Lists.{over}
use Rattle.sheet.specs.Sheet.{sheet_from, is_sheet}
use Rattle.sheet.specs.Image.{leaf_start, front_with, front_of, leaf_of, covered_of, board_of, image_of, newest_in}
use Rattle.sheet.specs.Write.{too_many_blocks, wrong_output, record_causes, write_causes, write_number, written}
use Rattle.sheet.specs.Make.{sheet_for, make_causes, make_number, make_length, made}
use Rattle.sheet.proofs.Crcs.{id-front}
use Rattle.sheet.proofs.Sheets.{SizedFields, whole-sheet, from-sized}
use Rattle.sheet.proofs.Images.{leaf_room, covered-length}
use Rattle.sheet.proofs.Returns.{record-numbered, write-is, made-is, length-is}
use Rattle.worked.specs.Cases.{sealed}
use Rattle.worked.proofs.Unmet.{left_out, unmet-left-out, alike-after}
use Rattle.worked.proofs.Sealed.{Sealed, crcs_apart, equal-unmet, judge-apart, board-sealed}

-- ## The image of a record

module _ (l : Layout) (p : Plain) (z : SizedFields p) where
  front-holds : (crc : ℕ) (r : List ℕ) → byte_at (front_with crc p ++ r) id_crc_at ≡ crc
  unfolding front_with
  front-holds crc r = ap (λ (s : List ℕ). byte_at s id_crc_at) (append_assoc p.id _ r) ∙ get_or_at p.id crc _ 0 id_crc_at z.id

  covered-id : (r : List ℕ) → byte_at (covered_of l p ++ r) id_crc_at ≡ id_crc (covered_of l p ++ r)
  unfolding covered_of front_of
  covered-id r =
      let crc = id_crc (front_with 0 p) in
      rw (append_assoc (front_with crc p) _ r) (front-holds crc _ ∙ sym (id-front p crc _ z))

  record-sealed : (out : List ℕ) → length (leaf_of p) ≤ leaf_room l → Sealed l (image_of l p out)
  unfolding image_of board_of sealed word_bytes
  record-sealed out fits = board-sealed l (covered_of l p) (drop (board_length l) out) (covered-length l p out z fits) covered-id

-- ## The writer

module _ (form : Form) (l : Layout) (edition : Bool) (sheet out : List ℕ) where
  -- its causes before the reader's
  before_reader : List Cause
  before_reader =
      (24 ⇒ not (is_sheet form sheet)) ∷ (33 ⇒ too_many_blocks form sheet) ∷ (1 ⇒ wrong_output form l (length out))
      ∷ record_causes l (sheet_from form sheet)

  before-numbered : Numbered before_reader
  unfolding before_reader
  before-numbered = (lit< tt, (lit< tt, (lit< tt, record-numbered l (sheet_from form sheet))))

  -- where none of them is met, the image has its CRCs
  before-sealed : first_met before_reader ≡ 0 → Sealed l (image_of l (sheet_from form sheet) out)
  unfolding before_reader record_causes
  before-sealed e =
      let a = none_here _ _ (lit< tt) e in
      let b = none_here _ _ (lit< tt) (none_here _ _ (lit< tt) a.1).1 in
      let c = none_here _ _ (lit< tt) (none_here _ _ (lit< tt) b.1).1 in
      let fits : leaf_start + length (leaf_of (sheet_from form sheet)) ≤ leaves_end l
      = ltb-false _ _ (none_here _ _ (lit< tt) c.1).0 in
      record-sealed l (sheet_from form sheet) (from-sized _ _ _ (whole-sheet form sheet (not-false _ a.0))) out (omega arith)

  -- 3 and 4 are at places 8 and 9
  unfoldable pub write_apart : ℕ
  write_apart = first_met (left_out 8 (left_out 8 (write_causes form l edition sheet out)))

  pub write-apart : write_number form l edition sheet out ≡ write_apart
  unfolding write_number write_apart write_causes record_causes left_out crcs_apart before_reader
      judge_causes header_causes image_causes newest_in
  write-apart =
      alike-after before_reader _ _ before-numbered
      (λ e. judge-apart _ (newest_in l edition (sheet_from form sheet).chip) (before-sealed e))

  module _ (z : write_apart ≡ 0) where
    pub written_apart : written form l edition sheet out ≡ image_of l (sheet_from form sheet) out
    written_apart = write-is form l edition sheet out (write-apart ∙ z)

    pub written-sealed : Sealed l (image_of l (sheet_from form sheet) out)
    unfolding write_number write_causes before_reader
    written-sealed = before-sealed (both-accepted before_reader _ before-numbered (write-apart ∙ z)).0

-- ## The sheet maker

module _ (form : Form) (l : Layout) (edition : Bool) (image : List ℕ) (chip : ℕ) where
  -- 3 and 4 are at places 3 and 4
  unfoldable pub make_apart : ℕ → ℕ
  make_apart room = first_met (left_out 3 (left_out 3 (make_causes form l edition image chip room)))

  module _ (s : Sealed l image) where
    pub make-apart : (room : ℕ) → make_number form l edition image chip room ≡ make_apart room
    unfolding make_number make_apart make_causes left_out judge_causes header_causes image_causes newest_in
    make-apart room = unmet-left-out 3 _ (equal-unmet _ _ s.srom) ∙ unmet-left-out 3 _ (equal-unmet _ _ s.id)

    pub made-apart : (buffer : List ℕ) → make_apart (length buffer) ≡ 0
        → made form l edition image chip buffer ≡ over buffer (sheet_for form l image chip)
    made-apart buffer z = made-is form l edition image chip buffer (make-apart (length buffer) ∙ z)

    pub length-apart : (room : ℕ) → make_apart room ≡ 0
        → make_length form l edition image chip room ≡ length (sheet_for form l image chip)
    length-apart room z = length-is form l edition image chip room (make-apart room ∙ z)

-- ## The sheet maker on what was written, in any edition

module _ (form : Form) (l : Layout) (edition : Bool) (sheet out : List ℕ) (z : write_apart form l edition sheet out ≡ 0)
    (other : Bool) (chip : ℕ) where
  abbrev written_image : List ℕ
  written_image = image_of l (sheet_from form sheet) out

  pub make-written : (room : ℕ)
      → make_number form l other (written form l edition sheet out) chip room ≡ make_apart form l other written_image chip room
  make-written room =
      ap (λ (s : List ℕ). make_number form l other s chip room) (written_apart form l edition sheet out z)
      ∙ make-apart form l other written_image chip (written-sealed form l edition sheet out z) room

  pub made-written : (buffer : List ℕ) → make_apart form l other written_image chip (length buffer) ≡ 0
      → made form l other (written form l edition sheet out) chip buffer ≡ over buffer (sheet_for form l written_image chip)
  made-written buffer e =
      ap (λ (s : List ℕ). made form l other s chip buffer) (written_apart form l edition sheet out z)
      ∙ made-apart form l other written_image chip (written-sealed form l edition sheet out z) buffer e
