-- A reading, from its header, the room that is lent and its leaf's tally. Assumes nothing.
use Prim.Native.Nat.{ℕ, zero, suc, ◌+◌, ◌-◌, ◌≤◌, ◌<◌, zero-le}
use native.Mathlib.Omega.{arith}
use mathlib.Core.List.{List, ◌∷◌}
use mathlib.Core.Path.{◌≡◌, refl, ap, sym, ◌∙◌}
use mathlib.Core.Bool.{Bool, true, ◌||◌}
use lib.Dec.{eqb, ltb, lit<, eqb-suc-zero}
use lib.ListN.{length, take, drop, length-take}
use borrow.Author.Tests.{ne_eqb, lt-ltb, le-ltb, ltb-false}
use Rattle.rom.specs.Geometry.{leaves_end}
use Rattle.rom.proofs.Layouts.{geometry}
use Rattle.rom.specs.Bytes.{pick}
use Rattle.rom.specs.Refusal.{Cause, ◌⇒◌, first_met}
use Rattle.rom.proofs.First.{none_here, after-accepted, after-refused, both-accepted}
use Rattle.rom.proofs.Truth.{or-false}
use Rattle.image.specs.declared.Arguments.{Arguments}
use Rattle.image.specs.Image.{is_first_version, up_to_leaves_end}
use Rattle.image.specs.Arguments.{row_for, start_for, count_for, header_causes}
use Rattle.header.specs.Header.{HeaderAnswer, found_header, header_for}
use Rattle.image.proofs.Causes.{header-numbered, whole-image, start_fits}
use Rattle.header.proofs.Headers.{read_number, no-refusal, read_found, read_count}
use Rattle.format.specs.Block.{the_later_version}
use Rattle.leaf.specs.Leaf.{PlacedBlock, cut, block_causes, table_of}
use Rattle.leaf.specs.Tally.{TallyAnswer, tally_of, counts}
use Rattle.leaf.proofs.Cuts.{accepted-blocks}
use Rattle.leaf.proofs.Sorts.{tally-number, tally-accepted, sorts-add-up}
use Rattle.leaf.proofs.Tables.{listed-length}
use Rattle.reader.specs.declared.Answer.{Answer}
use Rattle.reader.specs.declared.Part.{Part}
use Rattle.reader.specs.Table.{tabled, no_part, entry_part}
use Rattle.reader.specs.Inside.{answer_from, reading_for}
use Rattle.reader.specs.Reading.{blocks_for, table_for, leaf_causes_for, judge_causes, read_causes, refused_answer, accepted_answer}
use Rattle.reader.specs.Reading.{answer_for, judge_answer, read_answer, read_into, part_for, view_for, refused_reading, accepted_reading}
use Rattle.reader.specs.Reading.{Judged, reading_with, judged_reading}
use Rattle.reader.proofs.Entries.{entry-inside}

-- ## The number of a reading

module _ (image : List ℕ) (a : Arguments) (k o : ℕ) where
  -- the causes behind the header's
  behind : List Cause
  behind = (12 ⇒ ltb k (count_for image a) || ltb o (count_for image a)) ∷ leaf_causes_for image a

  refused-reading : (n : ℕ) → (n ≡ 0 → ⊥) → first_met (read_causes image a k o) ≡ n → refused_reading n ≡ reading_for image a k o
  unfolding reading_for reading_with pick
  refused-reading n h e = rw e (simp (ne_eqb n 0 h))

  accepted-reading : first_met (read_causes image a k o) ≡ 0 → accepted_reading image a ≡ reading_for image a k o
  unfolding reading_for reading_with pick
  accepted-reading e = rw e

  module _ (z : first_met (header_causes image a) ≡ 0) where
    past-header : first_met (read_causes image a k o) ≡ first_met behind
    unfolding read_causes behind
    past-header = after-accepted (header_causes image a) _ (header-numbered image a) z

    no_room : (ltb k (count_for image a) || ltb o (count_for image a)) ≡ true → first_met (read_causes image a k o) ≡ 12
    unfolding behind first_met pick
    no_room e = past-header ∙ rw e

    past_room : count_for image a ≤ k → count_for image a ≤ o → first_met (read_causes image a k o) ≡ first_met (leaf_causes_for image a)
    unfolding behind first_met pick
    past_room hk ho = past-header ∙ simp (le-ltb k (count_for image a) hk, le-ltb o (count_for image a) ho)

-- ## The steps of `assess` in its own terms

module _ (image : List ℕ) (a : Arguments) (k o : ℕ) (h : HeaderAnswer) (eh : h ≡ header_for image a) where
  pub assess-header : (h.number ≡ 0 → ⊥) → refused_reading h.number ≡ reading_for image a k o
  unfolding read_causes
  assess-header n =
      refused-reading image a k o h.number n (after-refused (header_causes image a) _ h.number n (sym (read_number image a h eh)))

  module _ (z : h.number ≡ 0) where
    accepted : first_met (header_causes image a) ≡ 0
    accepted = no-refusal image a h eh z

    found : h ≡ found_header image a
    found = read_found image a h eh z

    count : h.blocks ≡ count_for image a
    count = read_count image a h eh z

    pub assess-kinds : k < h.blocks → refused_reading 12 ≡ reading_for image a k o
    assess-kinds l =
        refused-reading image a k o 12 (λ e. omega arith)
        (no_room image a k o accepted (simp (lt-ltb k (count_for image a) (rw count at l))))

    pub assess-offsets : h.blocks ≤ k → o < h.blocks → refused_reading 12 ≡ reading_for image a k o
    assess-offsets g l =
        refused-reading image a k o 12 (λ e. omega arith)
        (no_room image a k o accepted (simp (le-ltb k (count_for image a) (rw count at g), lt-ltb o (count_for image a) (rw count at l))))

    module _ (hk : h.blocks ≤ k) (ho : h.blocks ≤ o) (rest : List ℕ) (er : rest ≡ up_to_leaves_end a.layout image h.start)
        {first : Bool} (ef : first ≡ is_first_version image) (t : TallyAnswer)
        (et : t ≡ tally_of first h.row a.level (cut h.row h.blocks rest)) where
      tally : t ≡ tally_of (is_first_version image) (row_for a) a.level (blocks_for image a)
      unfolding found_header
      tally = rw found at (rw (er, ef) at et)

      leaf-number : t.number ≡ first_met (leaf_causes_for image a)
      unfolding leaf_causes_for
      leaf-number = rw tally (tally-number (is_first_version image) (row_for a) a.level (blocks_for image a))

      all-causes : first_met (read_causes image a k o) ≡ t.number
      all-causes = past_room image a k o accepted (rw count at hk) (rw count at ho) ∙ sym leaf-number

      pub assess-leaf : (t.number ≡ 0 → ⊥) → refused_reading t.number ≡ reading_for image a k o
      assess-leaf n = refused-reading image a k o t.number n all-causes

      all : t.number ≡ 0 → t ≡ counts (row_for a) a.level (blocks_for image a)
      unfolding leaf_causes_for
      all e = tally ∙ tally-accepted (is_first_version image) (row_for a) a.level (blocks_for image a) (sym leaf-number ∙ e)

      both : t.number ≡ 0 → answer_from h t ≡ accepted_answer image a
      unfolding answer_from accepted_answer found_header counts
      both e = rw (found, all e)

      pub assess-done : t.number ≡ 0 → (r : Answer) → r ≡ answer_from h t
          → record { answer = r; row = h.row; start = h.start } ≡ reading_for image a k o
      unfolding found_header accepted_reading
      assess-done e r er = rw (er ∙ both e, found) (accepted-reading image a k o (all-causes ∙ e))

-- ## The number and the answer of a reading

pub answer-number : (n : ℕ) (image : List ℕ) (a : Arguments) → (answer_for n image a).number ≡ n
unfolding answer_for accepted_answer refused_answer pick
answer-number zero image a = refl
answer-number (suc n) image a = rw (eqb-suc-zero n)

module _ (n : ℕ) (image : List ℕ) (a : Arguments) (r : Judged) (er : r ≡ reading_with n image a) where
  pub reading-answer : r.answer ≡ answer_for n image a
  unfolding reading_with accepted_reading refused_reading answer_for pick
  reading-answer = rw er (go n)
    where
      go : (n : ℕ)
          → (pick (eqb n 0) (accepted_reading image a) (refused_reading n)).answer
          ≡ pick (eqb n 0) (accepted_answer image a) (refused_answer n)
      go zero = refl
      go (suc n) = rw (eqb-suc-zero n)

  pub reading-number : r.answer.number ≡ n
  reading-number = rw reading-answer (answer-number n image a)

  is-accepted : r.answer.number ≡ 0 → r ≡ accepted_reading image a
  unfolding reading_with pick
  is-accepted z = er ∙ rw (sym reading-number ∙ z)

-- ## What an accepted reading says

pub record Accepted (image : List ℕ) (a : Arguments) (r : Judged) : Type 0 where
  pub known : r ≡ accepted_reading image a
  pub header : first_met (header_causes image a) ≡ 0
  pub leaf : first_met (leaf_causes_for image a) ≡ 0

-- the leaf's rest from where the reading says that its blocks start
abbrev pub rest_of : List ℕ → Arguments → Judged → List ℕ
rest_of image a r = up_to_leaves_end a.layout image r.start

module _ {image : List ℕ} {a : Arguments} {r : Judged} (c : Accepted image a r) where
  pub reading-start : r.start ≤ leaves_end a.layout
  unfolding accepted_reading
  reading-start = rw c.known (start_fits image a c.header)

  pub reading-end : leaves_end a.layout ≤ length image
  reading-end = let g = geometry a.layout in omega (arith, whole-image image a c.header)

  pub reading-blocks : first_met (block_causes the_later_version r.row a.level (cut r.row r.answer.blocks (rest_of image a r))) ≡ 0
  unfolding accepted_reading accepted_answer leaf_causes_for
  reading-blocks = rw c.known (accepted-blocks (is_first_version image) (row_for a) a.level (blocks_for image a) c.leaf)

  pub reading-listed : r.answer.listed ≡ length (table_of r.row a.level r.answer.blocks r.start (rest_of image a r))
  unfolding accepted_reading accepted_answer
  reading-listed =
      rw c.known
      (sym (listed-length (row_for a) a.level (count_for image a) (start_for image a)
      (up_to_leaves_end a.layout image (start_for image a))))

  pub reading-few : r.answer.listed ≤ count_for image a
  unfolding accepted_reading accepted_answer
  reading-few =
      rw c.known
      (omega (arith, sorts-add-up (row_for a) a.level (count_for image a) (up_to_leaves_end a.layout image (start_for image a))))

  pub reading-short : r.start + length (rest_of image a r) < 65536
  unfolding up_to_leaves_end
  reading-short =
      let g = geometry a.layout in omega (arith, reading-start, length-take (leaves_end a.layout - r.start) (drop r.start image))

  pub reading-table : table_of r.row a.level r.answer.blocks r.start (rest_of image a r) ≡ table_for image a
  unfolding accepted_reading accepted_answer
  reading-table = rw c.known

  pub reading-row : r.row ≡ row_for a
  unfolding accepted_reading
  reading-row = rw c.known

-- ## Without arrays

module _ (image : List ℕ) (a : Arguments) where
  pub accepted-judged : (r : Judged) → r ≡ judged_reading image a → r.answer.number ≡ 0 → Accepted image a r
  unfolding judged_reading judge_causes
  accepted-judged r er z =
      let n = first_met (judge_causes image a) in
      let b =
      both-accepted (header_causes image a) (leaf_causes_for image a) (header-numbered image a)
      (sym (reading-number n image a r er) ∙ z) in
      record { known = is-accepted n image a r er z; header = b.0; leaf = b.1 }

  pub judged-answer : (r : Judged) → r ≡ judged_reading image a → r.answer ≡ judge_answer image a
  unfolding judged_reading judge_answer
  judged-answer r er = reading-answer (first_met (judge_causes image a)) image a r er

  pub no-part : (r : Judged) → r ≡ judged_reading image a → (e : ℕ) → (r.answer.number ≡ 0 → ⊥) → no_part ≡ part_for image a e
  unfolding judged_reading part_for pick
  no-part r er e n =
      simp (ne_eqb (first_met (judge_causes image a)) 0 (λ z. n (reading-number (first_met (judge_causes image a)) image a r er ∙ z)))

  pub a-part : (r : Judged) → r ≡ judged_reading image a → (rest : List ℕ) → rest ≡ rest_of image a r → (e : ℕ) → r.answer.number ≡ 0
      → entry_part r.row (table_of r.row a.level r.answer.blocks r.start rest) e ≡ part_for image a e
  unfolding judged_reading part_for pick
  a-part r er rest q e z =
      let c = accepted-judged r er z in
      rw (q, sym (reading-number (first_met (judge_causes image a)) image a r er) ∙ z, reading-table c, reading-row c)

  -- a block count is a byte, so room for 255 is never too little
  pub no-array : count_for image a < 256 → reading_for image a 255 255 ≡ judged_reading image a
  unfolding reading_for judged_reading read_causes judge_causes
  no-array byte = ap (λ (n : ℕ). reading_with n image a) (go (first_met (header_causes image a)) refl)
    where
      go : (n : ℕ) → first_met (header_causes image a) ≡ n → first_met (read_causes image a 255 255) ≡ first_met (judge_causes image a)
      go zero e =
          past_room image a 255 255 e (omega arith) (omega arith)
          ∙ sym (after-accepted (header_causes image a) (leaf_causes_for image a) (header-numbered image a) e)
      go (suc n) e =
          after-refused (header_causes image a) _ (suc n) (λ z. omega arith) e
          ∙ sym (after-refused (header_causes image a) (leaf_causes_for image a) (suc n) (λ z. omega arith) e)

-- ## Into arrays

module _ (image : List ℕ) (a : Arguments) (k o : ℕ) (r : Judged) (er : r ≡ reading_for image a k o) where
  number_read : r.answer.number ≡ first_met (read_causes image a k o)
  unfolding reading_for
  number_read = reading-number (first_met (read_causes image a k o)) image a r er

  pub answer-read : r.answer ≡ read_answer image a k o
  unfolding reading_for read_answer
  answer-read = reading-answer (first_met (read_causes image a k o)) image a r er

  pub unchanged : (f : PlacedBlock → ℕ) (array : List ℕ) → (r.answer.number ≡ 0 → ⊥)
      → array ≡ read_into f (first_met (read_causes image a k o)) image a array
  unfolding read_into pick
  unchanged f array n = simp (ne_eqb (first_met (read_causes image a k o)) 0 (λ e. n (number_read ∙ e)))

  module _ (z : r.answer.number ≡ 0) where
    behind-met : (first_met (header_causes image a) ≡ 0) × (count_for image a ≤ k) × (count_for image a ≤ o)
        × (first_met (leaf_causes_for image a) ≡ 0)
    unfolding read_causes
    behind-met =
        let b = both-accepted (header_causes image a) _ (header-numbered image a) (sym number_read ∙ z) in
        let c = none_here _ (leaf_causes_for image a) (lit< tt) b.1 in
        let n = or-false (ltb k (count_for image a)) (ltb o (count_for image a)) c.0 in
        (b.0, ltb-false k (count_for image a) n.0, ltb-false o (count_for image a) n.1, c.1)

    pub accepted-read : Accepted image a r
    unfolding reading_for
    accepted-read =
        record { known = is-accepted (first_met (read_causes image a k o)) image a r er z; header = behind-met.0; leaf = behind-met.3 }

    pub room-kinds : r.answer.listed ≤ k
    room-kinds = omega (arith, reading-few accepted-read, behind-met.1)

    pub room-offsets : r.answer.listed ≤ o
    room-offsets = omega (arith, reading-few accepted-read, behind-met.2)

    pub filled_in : (rest : List ℕ) → rest ≡ rest_of image a r → (f : ℕ → PlacedBlock → ℕ) (array : List ℕ)
        → tabled (f r.row) (table_of r.row a.level r.answer.blocks r.start rest) array
        ≡ read_into (f (row_for a)) (first_met (read_causes image a k o)) image a array
    unfolding read_into pick
    filled_in rest e f array = rw (e, sym number_read ∙ z, reading-table accepted-read, reading-row accepted-read)

-- ## A part lies in the image

module _ (image : List ℕ) (a : Arguments) (e : ℕ) where
  inside-image : (part_for image a e).start + (part_for image a e).length ≤ length image
  unfolding part_for judge_causes leaf_causes_for up_to_leaves_end pick entry_part
  inside-image = go (first_met (judge_causes image a)) refl
    where
      inside : first_met (judge_causes image a) ≡ 0
          → (entry_part (row_for a) (table_for image a) e).start + (entry_part (row_for a) (table_for image a) e).length ≤ length image
      inside z =
          let b = both-accepted (header_causes image a) (leaf_causes_for image a) (header-numbered image a) z in
          omega (
            arith,
            start_fits image a b.0,
            whole-image image a b.0,
            (geometry a.layout).maker,
            (geometry a.layout).stored,
            (geometry a.layout).board,
            length-take (leaves_end a.layout - start_for image a) (drop (start_for image a) image),
            entry-inside (row_for a) a.level (count_for image a) (start_for image a) (up_to_leaves_end a.layout image (start_for image a)) e
                (accepted-blocks (is_first_version image) (row_for a) a.level (blocks_for image a) b.1),
          )

      go : (n : ℕ) → first_met (judge_causes image a) ≡ n
          → (pick (eqb n 0) (entry_part (row_for a) (table_for image a) e) no_part).start + (pick (eqb n 0)
          (entry_part (row_for a) (table_for image a) e) no_part).length ≤ length image
      go zero z = inside z
      go (suc n) z = rw (eqb-suc-zero n) zero-le

  pub part_bytes : (p : Part) → p ≡ part_for image a e → take ((p.start + p.length) - p.start) (drop p.start image) ≡ view_for image a e
  unfolding view_for
  part_bytes p q = let l : (p.start + p.length) - p.start ≡ p.length = omega arith in rw (l, q)

  pub part-inside : (p : Part) → p ≡ part_for image a e → p.start + p.length ≤ length image
  part-inside p q = rw q inside-image
