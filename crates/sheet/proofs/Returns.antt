-- The writer's order, exact refusals, and the two returns, each a composition of two of the four laws. Assumes nothing.
use Prim.Native.Nat.{ℕ, zero, suc, ◌+◌, ◌≤◌}
use mathlib.Core.Path.{◌≡◌, refl, sym, ap, ap₂, ◌∙◌}
use mathlib.Core.Bool.{Bool, true, false, not}
use mathlib.Core.List.{List}
use native.Mathlib.Omega.{arith}
use lib.ListN.{length, take, drop, drop_of_length-le}
use lib.Seq.{take-append_seam, drop_at}
use lib.Dec.{lit<, eqb}
use borrow.Author.Tests.{eq-eqb, ne_eqb, ltb-false, le-ltb, not-false}
use Rattle.rom.specs.declared.Layout.{Layout}
use Rattle.rom.specs.Geometry.{wrong_length, image_length, board_length, leaves_end}
use Rattle.rom.specs.Bytes.{pick, is_in, Bytes}
use Rattle.rom.specs.Refusal.{first_met, Numbered}
use Rattle.rom.proofs.First.{exact, numbered-append, none_here, after-accepted, both-accepted}
use Rattle.rom.proofs.Layouts.{geometry, magic-board, plain-board}
use Rattle.rom.proofs.Reached.{reached, end, stop, skip, past}
use Rattle.rom.proofs.Truth.{pick_true, pick-false, met-not, or-false}
use Rattle.format.specs.Chips.{chips}
use Rattle.image.specs.declared.Arguments.{Arguments}
use Rattle.image.specs.Arguments.{header_causes}
use Rattle.image.proofs.Causes.{header-numbered}
use Rattle.leaf.proofs.Cuts.{leaf-numbered}
use Rattle.reader.specs.Reading.{leaf_causes_for, judge_causes}
use Rattle.sheet.specs.Lists.{over}
use Rattle.sheet.specs.Record.{Plain}
use Rattle.sheet.specs.declared.Form.{Form}
use Rattle.sheet.specs.declared.Form.TheVariants.{Narrow, Wide}
use Rattle.sheet.specs.Form.{is_beyond, count_in}
use Rattle.sheet.specs.Sheet.{plain_from, sheet_of, chip_in, sheet_from, is_sheet}
use Rattle.sheet.specs.Image.{leaf_start, leaf_of, board_of, image_of, newest_in, image_from, is_tidy}
use Rattle.sheet.specs.Write.{cannot_hold, too_many_blocks, wrong_output, record_causes, write_causes, write_number, written}
use Rattle.sheet.specs.Make.{sheet_for, make_causes, make_number, make_length, made}
use Rattle.sheet.specs.Convert.{converted, convert_causes, convert_number, convert_length, converted_in}
use Rattle.sheet.specs.Claims.{SheetReturns, sheet_made, SameBlock, ImageReturns, WrittenIsTidy, WriterKeepsBlock, SheetFits}
use Rattle.sheet.specs.Claims.{ExactRefusals, WriterOrder, PastUnchanged, RefusalsChangeNothing}
use Rattle.sheet.proofs.Sheets.{SizedFields, at_count, whole-sheet, sheet-means, sheet-is, from-sized, sheet-back}
use Rattle.sheet.proofs.Images.{leaf_room, board-length, image-means, image-tidy, accepted-image, tidy, means-sized, means-holds}
use Rattle.sheet.proofs.Images.{means-fits, means-few, image-back}
use Rattle.sheet.proofs.Longest.{longest}

-- ## The order of the writer's causes

pub writer-order : WriterOrder
unfolding write_number write_causes record_causes plain_from
writer-order form l edition sheet out = (
  λ no-sheet. sym (reached (stop (ap not no-sheet))),
  λ is. (
    λ many. sym (reached (skip (met-not _ is) (stop many))),
    λ few. (
      λ wrong. sym (reached (skip (met-not _ is) (skip few (stop wrong)))),
      λ room. (
        λ no-chip. sym (reached (skip (met-not _ is) (skip few (skip room (stop (ap not no-chip)))))),
        λ chip held. sym (reached (skip (met-not _ is) (skip few (skip room (skip (met-not _ chip) (stop held)))))),
      ),
    ),
  ),
)

-- ## Every cause has a number

pub judge-numbered : (image : List ℕ) (a : Arguments) → Numbered (judge_causes image a)
unfolding judge_causes leaf_causes_for
judge-numbered image a = numbered-append (header_causes image a) _ (header-numbered image a) (leaf-numbered _ _ _ _)

pub record-numbered : (l : Layout) (p : Plain) → Numbered (record_causes l p)
unfolding record_causes
record-numbered l p = (lit< tt, (lit< tt, (lit< tt, tt)))

write-numbered : (form : Form) (l : Layout) (edition : Bool) (sheet out : List ℕ) → Numbered (write_causes form l edition sheet out)
unfolding write_causes
write-numbered form l edition sheet out = (
  lit< tt,
  (
    lit< tt,
    (
      lit< tt,
      numbered-append (record_causes l (sheet_from form sheet)) _ (record-numbered l (sheet_from form sheet))
          (judge-numbered _ _),
    ),
  ),
)

make-numbered : (form : Form) (l : Layout) (edition : Bool) (image : List ℕ) (chip room : ℕ)
    → Numbered (make_causes form l edition image chip room)
unfolding make_causes
make-numbered form l edition image chip room =
    let a = newest_in l edition chip in
    (lit< tt, numbered-append (judge_causes image a) _ (judge-numbered image a) (lit< tt, (lit< tt, tt)))

convert-numbered : (from : Form) (s : List ℕ) (room : ℕ) → Numbered (convert_causes from s room)
unfolding convert_causes
convert-numbered from s room = (lit< tt, (lit< tt, (lit< tt, tt)))

pub exact-refusals : ExactRefusals
unfolding write_number make_number convert_number
exact-refusals form = (
  λ l edition sheet out. (exact (write_causes form l edition sheet out) (write-numbered form l edition sheet out)).0,
  λ l edition image chip room. (exact (make_causes form l edition image chip room) (make-numbered form l edition image chip room)).0,
  λ sheet room. (exact (convert_causes form sheet room) (convert-numbered form sheet room)).0,
)

-- ## What the writer's acceptance says

pub served-output : (form : Form) (l : Layout) (n : ℕ) → wrong_output form l n ≡ false → (is_beyond form l.size ≡ false)
    × (wrong_length l.size n ≡ false)
unfolding wrong_output
served-output form l n e = or-false _ _ e

pub right-output : (form : Form) (l : Layout) (n : ℕ) → is_beyond form l.size ≡ false → wrong_length l.size n ≡ false
    → wrong_output form l n ≡ false
unfolding wrong_output
right-output form l n e f = rw (e, f)

pub record WritableSheet (form : Form) (l : Layout) (edition : Bool) (s out : List ℕ) : Type 0 where
  pub is : is_sheet form s ≡ true
  pub few : too_many_blocks form s ≡ false
  pub room : wrong_output form l (length out) ≡ false
  pub chip : is_in (sheet_from form s).chip chips ≡ true
  pub holds : cannot_hold (sheet_from form s) ≡ false
  pub fits : leaf_start + length (leaf_of (sheet_from form s)) ≤ leaves_end l
  pub reads : first_met (judge_causes (image_of l (sheet_from form s) out) (newest_in l edition (sheet_from form s).chip)) ≡ 0

pub writable : (form : Form) (l : Layout) (edition : Bool) (s out : List ℕ) → write_number form l edition s out ≡ 0
    → WritableSheet form l edition s out
unfolding write_number write_causes record_causes
writable form l edition s out h =
    let a = none_here _ _ (lit< tt) h in
    let f = none_here _ _ (lit< tt) a.1 in
    let b = none_here _ _ (lit< tt) f.1 in
    let j = both-accepted (record_causes l (sheet_from form s)) _ (record-numbered l (sheet_from form s)) b.1 in
    let c = none_here _ _ (lit< tt) j.0 in
    let d = none_here _ _ (lit< tt) c.1 in
    let e = none_here _ _ (lit< tt) d.1 in
    record {
      is = not-false _ a.0;
      few = f.0;
      room = b.0;
      chip = not-false _ c.0;
      holds = d.0;
      fits = ltb-false _ _ e.0;
      reads = j.1;
    }

pub record-accepted : (l : Layout) (p : Plain) → is_in p.chip chips ≡ true → cannot_hold p ≡ false
    → leaf_start + length (leaf_of p) ≤ leaves_end l → first_met (record_causes l p) ≡ 0
unfolding record_causes
record-accepted l p c h f = sym (reached (skip (met-not _ c) (skip h (skip (le-ltb _ _ f) end))))

pub writes : (form : Form) (l : Layout) (edition : Bool) (s out : List ℕ) → WritableSheet form l edition s out
    → write_number form l edition s out ≡ 0
unfolding write_number write_causes first_met pick
writes form l edition s out w =
    simp (w.is, w.few, w.room)
    (after-accepted (record_causes l (sheet_from form s)) _ (record-numbered l (sheet_from form s))
    (record-accepted l (sheet_from form s) w.chip w.holds w.fits) ∙ w.reads)

pub write-is : (form : Form) (l : Layout) (edition : Bool) (s out : List ℕ) → write_number form l edition s out ≡ 0
    → written form l edition s out ≡ image_of l (sheet_from form s) out
unfolding written
write-is form l edition s out h = pick_true _ _ _ (eq-eqb _ _ h)

-- ## What the sheet maker's acceptance says

pub record Makeable (form : Form) (l : Layout) (edition : Bool) (s : List ℕ) (chip room : ℕ) : Type 0 where
  pub served : is_beyond form l.size ≡ false
  pub reads : first_met (judge_causes s (newest_in l edition chip)) ≡ 0
  pub neat : is_tidy l chip s ≡ true
  pub fits : length (sheet_for form l s chip) ≤ room

module _ (form : Form) (l : Layout) (edition : Bool) (s : List ℕ) (chip : ℕ) where
  pub makeable : (room : ℕ) → make_number form l edition s chip room ≡ 0 → Makeable form l edition s chip room
  unfolding make_number make_causes
  makeable room h =
      let first = none_here _ _ (lit< tt) h in
      let j = both-accepted (judge_causes s (newest_in l edition chip)) _ (judge-numbered s (newest_in l edition chip)) first.1 in
      let a = none_here _ _ (lit< tt) j.1 in
      let b = none_here _ _ (lit< tt) a.1 in
      record { served = first.0; reads = j.0; neat = not-false _ a.0; fits = ltb-false _ _ b.0 }

  pub makes : (room : ℕ) → Makeable form l edition s chip room → make_number form l edition s chip room ≡ 0
  unfolding make_number make_causes
  makes room m =
      sym (reached (skip m.served (past (judge_causes s (newest_in l edition chip)) (judge-numbered s (newest_in l edition chip)) m.reads
      (skip (met-not _ m.neat) (skip (le-ltb _ _ m.fits) end)))))

  pub length-is : (room : ℕ) → make_number form l edition s chip room ≡ 0
      → make_length form l edition s chip room ≡ length (sheet_for form l s chip)
  unfolding make_length
  length-is room h = pick_true _ _ _ (eq-eqb _ _ h)

  pub made-is : (buffer : List ℕ) → make_number form l edition s chip (length buffer) ≡ 0
      → made form l edition s chip buffer ≡ over buffer (sheet_for form l s chip)
  unfolding made
  made-is buffer h = pick_true _ _ _ (eq-eqb _ _ h)

-- what stands at the buffer's front
pub made-front : (form : Form) (l : Layout) (edition : Bool) (s : List ℕ) (chip : ℕ) (buffer : List ℕ)
    → make_number form l edition s chip (length buffer) ≡ 0
    → sheet_made form l edition s chip buffer ≡ sheet_for form l s chip
unfolding over
made-front form l edition s chip buffer h =
    ap₂ take (length-is form l edition s chip _ h) (made-is form l edition s chip buffer h) ∙ take-append_seam (sheet_for form l s chip) _

pub refusals-change-nothing : RefusalsChangeNothing
unfolding written make_length made convert_length converted_in
refusals-change-nothing form = (
  λ l edition sheet out h. pick-false _ _ _ (ne_eqb _ _ h),
  λ l edition image buffer chip h. (pick-false _ _ _ (ne_eqb _ _ h), pick-false _ _ _ (ne_eqb _ _ h)),
  λ sheet buffer h. (pick-false _ _ _ (ne_eqb _ _ h), pick-false _ _ _ (ne_eqb _ _ h)),
)

past-over : (t : Bool) (buffer bytes : List ℕ)
    → drop (pick t (length bytes) 0) (pick t (over buffer bytes) buffer) ≡ drop (pick t (length bytes) 0) buffer
unfolding pick over
past-over true buffer bytes = drop_at bytes (drop (length bytes) buffer) (length bytes) refl
past-over false buffer bytes = refl

pub past-unchanged : PastUnchanged
unfolding make_length made convert_length converted_in
past-unchanged form = (
  λ l edition image buffer chip. past-over (eqb (make_number form l edition image chip (length buffer)) 0) buffer
      (sheet_for form l image chip),
  λ sheet buffer. past-over (eqb (convert_number form sheet (length buffer)) 0) buffer (converted form sheet),
)

-- ## The returns

-- the record that a writable sheet means, through its image
module _ (form : Form) (l : Layout) (edition : Bool) (s out : List ℕ) (w : WritableSheet form l edition s out) where
  pub meant-sized : SizedFields (sheet_from form s)
  meant-sized = from-sized _ _ _ (whole-sheet form s w.is)

  short : length (leaf_of (sheet_from form s)) ≤ leaf_room l
  short = omega (arith, w.fits)

  image-neat : is_tidy l (sheet_from form s).chip (image_of l (sheet_from form s) out) ≡ true
  image-neat = image-tidy l (sheet_from form s) out meant-sized short w.holds

  again : Bytes s → sheet_for form l (image_of l (sheet_from form s) out) (sheet_from form s).chip ≡ s
  again by = ap (sheet_of form) (image-means l (sheet_from form s) out meant-sized short w.holds) ∙ sheet-back form s w.is by

chip-from : (form : Form) (s : List ℕ) → (sheet_from form s).chip ≡ chip_in form s
unfolding plain_from
chip-from form s = refl

pub sheet-returns : SheetReturns
sheet-returns form l edition s out buffer by h room =
    let w = writable form l edition s out h in
    let back = again form l edition s out w by in
    let m : Makeable form l edition (image_of l (sheet_from form s) out) (sheet_from form s).chip (length buffer)
    = record {
      served = (served-output form l (length out) w.room).0;
      reads = w.reads;
      neat = image-neat form l edition s out w;
      fits = rw back room;
    } in
    let n = makes _ _ _ _ _ _ m in
    rw (write-is form l edition s out h, ← chip-from form s) (
      n,
      length-is _ _ _ _ _ _ n ∙ ap length back,
      made-is _ _ _ _ _ buffer n ∙ ap (over buffer) back,
    )

pub written-is-tidy : WrittenIsTidy
written-is-tidy form l edition s out h =
    let w = writable form l edition s out h in
    rw (write-is form l edition s out h, ← chip-from form s) (image-neat form l edition s out w, w.reads)

-- an output that holds an image's block holds all that stands behind its board
behind-board : (l : Layout) (s t : List ℕ) → length s ≡ image_length l.size → length t ≡ image_length l.size → SameBlock l s t
    → drop (board_length l) s ≡ drop (board_length l) t
behind-board l s t ls lt same = go l.magic refl
  where
    go : (m : Bool) → l.magic ≡ m → drop (board_length l) s ≡ drop (board_length l) t
    go true e = rw (magic-board l e) (same e)
    go false e =
        let b = plain-board l e in
        drop_of_length-le s {i = board_length l} (omega arith) ∙ sym (drop_of_length-le t {i = board_length l} (omega arith))

-- a sheet that is made has no more blocks than a byte counts
few-entries : (form : Form) (p : Plain) → length p.entries ≤ 255 → too_many_blocks form (sheet_of form p) ≡ false
unfolding too_many_blocks
few-entries Narrow p h = refl
few-entries Wide p h = le-ltb 255 (count_in Wide (sheet_of Wide p)) (omega (arith, at_count Wide p))

pub image-returns : ImageReturns
image-returns form l edition s out buffer chip served by reads neat enough room same =
    let h = makes form l edition s chip (length buffer) (record { served = served; reads = reads; neat = neat; fits = enough }) in
    let a = accepted-image l edition chip s reads in
    let t = tidy l chip s neat in
    let z = means-sized l chip s by a t in
    let is = made-front form l edition s chip buffer h in
    let means = sheet-means form (image_from l chip s) z in
    let back = ap (λ (p : Plain). image_of l p out) means
    ∙ image-back l chip s by a t out (behind-board l out s room a.long same) in
    let of : (image_from l chip s).chip ≡ chip = unfold image_from in refl in
    let w : WritableSheet form l edition (sheet_for form l s chip) out
    = record {
      is = sheet-is form (image_from l chip s) z;
      few = few-entries form (image_from l chip s) (means-few l chip s by a t);
      room = rw (room ∙ sym a.long) (right-output form l (length s) served a.right);
      chip = rw (means, of) a.known-chip;
      holds = rw means (means-holds l chip s by a t);
      fits = rw means (let g = geometry l in omega (arith, means-fits l chip s by a t));
      reads = rw (back, means, of) reads;
    } in
    let n = writes _ _ _ _ _ w in
    (h, rw is n, rw is (write-is _ _ _ _ out n ∙ back))

pub sheet-fits : SheetFits
sheet-fits form l edition s chip served by reads neat =
    let a = accepted-image l edition chip s reads in
    let t = tidy l chip s neat in
    longest form l (image_from l chip s) (means-sized l chip s by a t) (means-holds l chip s by a t) (means-fits l chip s by a t)
    (means-few l chip s by a t)

-- ## The block that is kept

pub writer-keeps-block : WriterKeepsBlock
unfolding image_of
writer-keeps-block form l edition s out e = rw (← magic-board l e) (go (write_number form l edition s out) refl)
  where
    go : (n : ℕ) → write_number form l edition s out ≡ n → drop (board_length l) (written form l edition s out) ≡ drop (board_length l) out
    go zero h =
        let w = writable form l edition s out h in
        ap (drop (board_length l)) (write-is form l edition s out h)
        ∙ drop_at (board_of l (sheet_from form s)) _ _ (board-length l (sheet_from form s) out (meant-sized form l edition s out w)
        (short form l edition s out w))
    go (suc n) h = ap (drop (board_length l)) ((refusals-change-nothing form).0 l edition s out (λ z. omega arith))
