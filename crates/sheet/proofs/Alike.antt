-- Both forms alike: a converted sheet meets the writer's causes as the sheet does, and what the sheet maker lays out in the wide
-- form is what it lays out in the narrow one, converted. Assumes nothing.
use Prim.Native.Nat.{ℕ}
use mathlib.Core.Path.{◌≡◌, refl, sym, ap, ap₂, ◌∙◌}
use mathlib.Core.Bool.{Bool, true, false, not}
use mathlib.Core.List.{List, ◌∷◌, ◌++◌}
use native.Mathlib.Omega.{arith}
use lib.ListN.{length}
use lib.Dec.{eqb, ltb}
use borrow.Author.Tests.{le-ltb}
use Rattle.rom.specs.declared.Layout.{Layout}
use Rattle.rom.specs.Geometry.{small_size, other_size}
use Rattle.rom.specs.Bytes.{pick, Bytes}
use Rattle.rom.specs.Refusal.{◌⇒◌, first_met}
use Rattle.rom.proofs.First.{after-accepted}
use Rattle.rom.proofs.Truth.{pick-false, met-not, or-false}
use Rattle.reader.specs.Reading.{judge_causes}
use Rattle.sheet.specs.declared.Form.{Form}
use Rattle.sheet.specs.declared.Form.TheVariants.{Narrow, Wide}
use Rattle.sheet.specs.declared.Made.{Made}
use Rattle.sheet.specs.Lists.{over}
use Rattle.sheet.specs.Record.{Plain}
use Rattle.sheet.specs.Form.{is_beyond, other, count_in, total_in}
use Rattle.sheet.specs.Sheet.{sheet_of, is_sheet}
use Rattle.sheet.specs.Image.{image_from, image_of, newest_in, is_tidy}
use Rattle.sheet.specs.Write.{too_many_blocks, wrong_output, record_causes, write_causes, write_number, written}
use Rattle.sheet.specs.Make.{sheet_for, make_causes, make_number, make_length, made, made_for}
use Rattle.sheet.specs.Convert.{converted, too_large, convert_causes, convert_number, convert_length, converted_in, converted_for}
use Rattle.sheet.specs.Claims.{WrittenAlike, MadeAlike}
use Rattle.sheet.proofs.Sheets.{sheet-is}
use Rattle.sheet.proofs.Images.{accepted-image, tidy, means-sized}
use Rattle.sheet.proofs.Conversions.{convertible, count_kept, conversion-means, converted-is, front-is}
use Rattle.sheet.proofs.Returns.{judge-numbered, makeable, made-front}

-- ## Written alike

few-both : (from : Form) (s : List ℕ) → Bytes s → too_large from s ≡ false
    → (too_many_blocks from s ≡ false) × (too_many_blocks (other from) (converted from s) ≡ false)
unfolding too_many_blocks too_large
few-both Narrow s by e = (refl, le-ltb 255 (count_in Wide (converted Narrow s)) (omega (arith, count_kept Narrow s, by 0)))
few-both Wide s by e = ((or-false (ltb 255 (count_in Wide s)) (ltb 255 (total_in Wide s)) e).0, refl)

same-output : (from : Form) (l : Layout) (n : ℕ) → l.size ≡ small_size → wrong_output (other from) l n ≡ wrong_output from l n
unfolding wrong_output is_beyond other_size
same-output Narrow l n small = rw small
same-output Wide l n small = rw small

numbers-alike : (from : Form) (l : Layout) (edition : Bool) (s out : List ℕ) → Bytes s → is_sheet from s ≡ true → too_large from s ≡ false
    → l.size ≡ small_size
    → first_met (write_causes (other from) l edition (converted from s) out) ≡ first_met (write_causes from l edition s out)
unfolding write_causes first_met
numbers-alike from l edition s out by is small size =
    let few = few-both from s by small in
    let m = conversion-means from s is in
    pick-false (not (is_sheet (other from) (converted from s))) _ _ (met-not _ (converted-is from s is))
    ∙ pick-false (too_many_blocks (other from) (converted from s)) _ _ few.1
    ∙ ap₂
    (λ (b : Bool) (p : Plain). first_met ((1 ⇒ b) ∷ (record_causes l p ++ judge_causes (image_of l p out) (newest_in l edition p.chip))))
    (same-output from l (length out) size) m
    ∙ sym (pick-false (not (is_sheet from s)) _ _ (met-not _ is) ∙ pick-false (too_many_blocks from s) _ _ few.0)

pub written-alike : WrittenAlike
unfolding write_number written
written-alike from l edition s first out by h size =
    let c = convertible from s (length first) h in
    let a = numbers-alike from l edition s out by c.is c.small size in
    rw (front-is from s first h)
    (a, ap₂ (λ (n : ℕ) (p : Plain). pick (eqb n 0) (image_of l p out) out) a (conversion-means from s c.is))

-- ## Made alike

module _ (l : Layout) (edition : Bool) (image : List ℕ) (chip room : ℕ) where
  abbrev narrow : List ℕ
  narrow = sheet_for Narrow l image chip

  -- only 12 is left to both
  same_number : first_met (judge_causes image (newest_in l edition chip)) ≡ 0 → is_tidy l chip image ≡ true → is_sheet Narrow narrow ≡ true
      → make_number Wide l edition image chip room ≡ convert_number Narrow narrow room
  unfolding make_number make_causes convert_number convert_causes converted sheet_of is_beyond too_large first_met pick
  same_number reads neat is =
      after-accepted (judge_causes image (newest_in l edition chip)) _ (judge-numbered image (newest_in l edition chip)) reads
      ∙ pick-false (not (is_tidy l chip image)) _ _ (met-not _ neat) ∙ sym (pick-false (not (is_sheet Narrow narrow)) _ _ (met-not _ is))

pub made_alike : MadeAlike
unfolding made_for converted_for make_length convert_length made converted_in converted sheet_of
made_alike l edition image chip first buffer by h =
    let m = makeable Narrow l edition image chip (length first) h in
    let z = means-sized l chip image by (accepted-image l edition chip image m.reads) (tidy l chip image m.neat) in
    let n = same_number l edition image chip (length buffer) m.reads m.neat (sheet-is Narrow (image_from l chip image) z) in
    let answer : ℕ → Made = λ k. record { number = k; length = pick (eqb k 0) (length (sheet_for Wide l image chip)) 0 } in
    rw (made-front Narrow l edition image chip first h)
    (ap answer n, ap (λ (k : ℕ). pick (eqb k 0) (over buffer (sheet_for Wide l image chip)) buffer) n)
