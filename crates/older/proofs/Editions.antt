-- What the edition changes of a reading: refusal 11, in version 1. Assumes nothing.
use Prim.Native.Nat.{ℕ}
use native.Mathlib.Omega.{arith}
use mathlib.Core.List.{List, [], ◌∷◌}
use mathlib.Core.Path.{◌≡◌, refl, ap, sym, ◌∙◌}
use mathlib.Core.Bool.{Bool, true, false, ◌&&◌, ◌||◌, not}
use lib.Dec.{T, lit<, leb, ltb}
use borrow.Author.Tests.{not-false}
use lib.ListN.{length}
use Rattle.rom.specs.Geometry.{leaves_end, version_at}
use Rattle.rom.specs.Bytes.{byte_at, is_in}
use Rattle.rom.specs.Refusal.{first_met}
use Rattle.rom.proofs.First.{none_here, both-accepted, after-refused}
use Rattle.rom.proofs.Reached.{reached, stop, skip, past}
use Rattle.rom.proofs.Truth.{true-false}
use Rattle.format.specs.Chips.{is_read}
use Rattle.format.proofs.Rows.{member}
use Rattle.format.proofs.Chips.{no-first, no-later, each-its-own}
use Rattle.image.specs.declared.Arguments.{Arguments}
use Rattle.image.specs.Image.{versions, is_first_version, reserved_at, blocks_at, image_causes, argument_causes, leaf_header_causes}
use Rattle.image.specs.Arguments.{row_for, leaf_for, in_edition, header_causes}
use Rattle.image.proofs.Causes.{image-numbered, argument-numbered}
use Rattle.reader.specs.Reading.{leaf_causes_for, judge_causes, read_causes, accepted_answer, answer_for, judge_answer, read_answer}
use Rattle.reader.specs.Reading.{read_into, read_kinds, read_offsets, part_for, view_for}
use Rattle.reader.proofs.Readings.{answer-number}
use Rattle.walk.specs.declared.Walk.{Walk}
use Rattle.walk.specs.Walk.{loaded_walk, load_causes, load_for}
use Rattle.older.specs.Calls.{Call, load, look, clear, call, run}
use Rattle.older.specs.Claims.{LaterAlike, code_for, number_in, EachEdition, marks, MarksRefused}
use Rattle.older.proofs.OlderReadings.{reading-parts}

-- ## Versions 3 and 4

module _ (image : List ℕ) (a : Arguments) (edition other : Bool) (e : is_first_version image ≡ false) where
  abbrev b : Arguments
  b = in_edition a edition

  abbrev c : Arguments
  c = in_edition a other

  same-header : header_causes image b ≡ header_causes image c
  unfolding header_causes argument_causes
  same-header = rw e

  same-judge : judge_causes image b ≡ judge_causes image c
  unfolding judge_causes leaf_causes_for
  same-judge = rw same-header

  same_read : (k o : ℕ) → read_causes image b k o ≡ read_causes image c k o
  unfolding read_causes leaf_causes_for
  same_read k o = rw same-header

  same_load : (w : Walk) → load_for w image b ≡ load_for w image c
  unfolding load_for load_causes loaded_walk accepted_answer
  same_load w = rw same-judge

  same-call : (w : Walk) (d : Call) → call image b w d ≡ call image c w d
  unfolding call
  same-call w load = same_load w
  same-call w (look report) = refl
  same-call w clear = refl

  same-run : (w : Walk) (calls : List Call) → run image b w calls ≡ run image c w calls
  unfolding run
  same-run w [] = refl
  same-run w (d ∷ calls) = rw (same-call w d, same-run (call image c w d).walk calls)

  alike : (judge_answer image b ≡ judge_answer image c)
      × ((kinds offsets : List ℕ) →
      (read_answer image b (length kinds) (length offsets) ≡ read_answer image c (length kinds) (length offsets))
      × (read_kinds image b kinds offsets ≡ read_kinds image c kinds offsets)
      × (read_offsets image b kinds offsets ≡ read_offsets image c kinds offsets))
      × ((entry : ℕ) → view_for image b entry ≡ view_for image c entry)
      × ((w : Walk) (calls : List Call) → run image b w calls ≡ run image c w calls)
  unfolding judge_answer read_answer read_kinds read_offsets read_into view_for part_for answer_for accepted_answer
  alike = (
    rw same-judge,
    (λ k o. (rw (same_read (length k) (length o)), rw (same_read (length k) (length o)), rw (same_read (length k) (length o)))),
    (λ n. rw same-judge),
    same-run,
  )

pub later-alike : LaterAlike
later-alike = alike

-- ## Version 1: a code of one edition

module _ (image : List ℕ) (a : Arguments) (first : is_first_version image ≡ true) where
  -- what does not go by the edition
  record Before : Type 0 where
    pub image-fine : first_met (image_causes a.layout image) ≡ 0
    pub arguments-fine : first_met (argument_causes image a) ≡ 0
    pub bounds-fine : (leb (leaf_for image a) (reserved_at image) || ltb (leaves_end a.layout) (blocks_at (row_for a) (leaf_for image a)))
        ≡ false

  number_is : (edition : Bool) → number_in edition image a ≡ first_met (judge_causes image (in_edition a edition))
  unfolding judge_answer
  number_is edition = answer-number (first_met (judge_causes image (in_edition a edition))) image (in_edition a edition)

  accepted : (edition : Bool) → number_in edition image a ≡ 0 → Before × (is_read edition (row_for a) (code_for image a) ≡ true)
  unfolding header_causes argument_causes leaf_header_causes
  accepted edition z =
      let h = (reading-parts image (in_edition a edition) (sym (number_is edition) ∙ z)).0 in
      let i = both-accepted (image_causes a.layout image) _ (image-numbered a.layout image) h in
      let g = both-accepted (argument_causes image (in_edition a edition)) _ (argument-numbered image (in_edition a edition)) i.1 in
      let l = none_here _ _ (lit< tt) g.1 in
      let m : not (is_read (is_first_version image && edition) (row_for a) (code_for image a)) ≡ false = (none_here _ _ (lit< tt) l.1).0 in
      (record { image-fine = i.0; arguments-fine = g.0; bounds-fine = l.0 }, not-false _ (rw first at m))

  eleven : (edition : Bool) → Before → is_read edition (row_for a) (code_for image a) ≡ false → number_in edition image a ≡ 11
  unfolding judge_causes header_causes argument_causes leaf_header_causes
  eleven edition b e =
      let m : not (is_read (is_first_version image && edition) (row_for a) (code_for image a)) ≡ true = rw first (ap not e) in
      let h : first_met (header_causes image (in_edition a edition)) ≡ 11 =
      sym
      (reached
      (past (image_causes a.layout image) (image-numbered a.layout image) b.image-fine
      (past (argument_causes image a) (argument-numbered image a) b.arguments-fine (skip b.bounds-fine (stop m))))) in
      number_is edition
      ∙ after-refused (header_causes image (in_edition a edition)) (leaf_causes_for image (in_edition a edition)) 11 (λ z. omega arith) h

  -- an edition that does not read the code, against the other
  one-reads : (mine other : Bool) → is_read other (row_for a) (code_for image a) ≡ false
      → (number_in other image a ≡ 0 → ⊥) × (number_in mine image a ≡ 0 → number_in other image a ≡ 11)
  one-reads mine other e = (
    λ z. true-false (sym (accepted other z).1 ∙ e),
    λ z. eleven other (accepted mine z).0 e,
  )

  both-agree : is_read true (row_for a) (code_for image a) ≡ is_read false (row_for a) (code_for image a)
      → judge_answer image (in_edition a true) ≡ judge_answer image (in_edition a false)
  unfolding judge_answer answer_for accepted_answer judge_causes leaf_causes_for header_causes argument_causes leaf_header_causes
  both-agree e = rw (first, e)

pub each-edition : EachEdition
each-edition image a first = (
  λ e. one-reads image a first true false (no-first (row_for a) (code_for image a) e),
  λ e. one-reads image a first false true (no-later (row_for a) (code_for image a) e),
  λ e. both-agree image a first ((each-its-own (row_for a)).7 (code_for image a) e),
)

-- ## The marks

-- none is a version
no-version : (v : ℕ) → is_in v marks ≡ true → is_in v versions ≡ false
unfolding is_in versions
no-version v e = not-held (is_in v versions) (member (λ x. not (is_in x versions)) v marks tt (rw e tt))
  where
    not-held : (t : Bool) → T (not t) → t ≡ false
    not-held true h = absurd h
    not-held false h = refl

pub marks-refused : MarksRefused
unfolding judge_answer judge_causes header_causes image_causes
marks-refused image a right mark =
    answer-number (first_met (judge_causes image a)) image a
    ∙ sym (reached (skip right (stop (ap not (no-version (byte_at image version_at) mark)))))
