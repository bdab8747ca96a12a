-- The promises of reading, from the laws of readings and tables. Assumes nothing.
use Prim.Native.Nat.{ℕ, zero, suc, ◌+◌, ◌-◌, ◌≤◌}
use native.Mathlib.Omega.{arith}
use mathlib.Core.List.{List, [], ◌∷◌}
use mathlib.Core.Path.{◌≡◌, refl, ap, sym, ◌∙◌}
use lib.Dec.{lit<}
use lib.ListN.{length, take, drop, length-take}
use lib.Seq.{take-take, drop-drop}
use Rattle.rom.specs.Geometry.{leaves_end}
use Rattle.rom.specs.Bytes.{pick}
use Rattle.rom.specs.Refusal.{Numbered, first_met}
use Rattle.rom.proofs.First.{exact, numbered-append, both-accepted}
use Rattle.image.specs.declared.Arguments.{Arguments}
use Rattle.image.specs.Image.{is_first_version, up_to_leaves_end}
use Rattle.image.specs.Arguments.{row_for, start_for, count_for, header_causes}
use Rattle.image.proofs.Causes.{header-numbered, start_fits}
use Rattle.leaf.proofs.Cuts.{leaf-numbered, accepted-blocks}
use Rattle.leaf.proofs.Sorts.{sorts-add-up}
use Rattle.reader.specs.declared.Part.{Part}
use Rattle.reader.specs.Table.{entry_part}
use Rattle.reader.specs.Reading.{blocks_for, table_for, leaf_causes_for, judge_causes, read_causes, accepted_answer}
use Rattle.reader.specs.Reading.{judge_answer, read_answer}
use Rattle.reader.specs.Reading.{part_for, view_for}
use Rattle.reader.specs.Claims.{ExactReading, CountsAddUp, ViewIsBlock}
use Rattle.reader.proofs.Entries.{entry-inside, entry-bytes, entry-after}
use Rattle.reader.proofs.Readings.{answer-number}

-- ## Exact refusals

module _ (image : List ℕ) (a : Arguments) where
  leaf-causes-numbered : Numbered (leaf_causes_for image a)
  unfolding leaf_causes_for
  leaf-causes-numbered = leaf-numbered (is_first_version image) (row_for a) a.level (blocks_for image a)

  pub judge-numbered : Numbered (judge_causes image a)
  unfolding judge_causes
  judge-numbered = numbered-append (header_causes image a) _ (header-numbered image a) leaf-causes-numbered

  pub read-numbered : (kinds offsets : ℕ) → Numbered (read_causes image a kinds offsets)
  unfolding read_causes
  read-numbered kinds offsets = numbered-append (header_causes image a) _ (header-numbered image a) (lit< tt, leaf-causes-numbered)

pub exact-reading : ExactReading
unfolding judge_answer read_answer
exact-reading image a = (
  rw (answer-number (first_met (judge_causes image a)) image a) (exact (judge_causes image a) (judge-numbered image a)).0,
  λ k o. rw (answer-number (first_met (read_causes image a k o)) image a) (exact (read_causes image a k o) (read-numbered image a k o)).0,
)

pub counts-add-up : CountsAddUp
unfolding accepted_answer
counts-add-up image a = sorts-add-up (row_for a) a.level (count_for image a) (up_to_leaves_end a.layout image (start_for image a))

-- ## The view

-- a part of a part is a part of the whole
inner : (l d m : ℕ) (xs : List ℕ) → d + l ≤ m → take l (drop d (take m xs)) ≡ take l (drop d xs)
inner l zero m xs h = take-take l m xs (omega arith)
inner l (suc d) zero xs h = absurd (omega arith)
inner l (suc d) (suc m) [] h = refl
inner l (suc d) (suc m) (x ∷ xs) h = inner l d m xs (omega arith)

pub view-is-block : ViewIsBlock
unfolding view_for part_for judge_causes leaf_causes_for up_to_leaves_end pick
view-is-block image a e z l =
    let b = both-accepted (header_causes image a) (leaf_causes_for image a) (header-numbered image a) z in
    let start = start_for image a in
    let rest = up_to_leaves_end a.layout image start in
    let fine = accepted-blocks (is_first_version image) (row_for a) a.level (blocks_for image a) b.1 in
    let p : Part = entry_part (row_for a) (table_for image a) e in
    let after : start ≤ p.start = entry-after (row_for a) a.level (count_for image a) start rest e fine l in
    let within : p.start + p.length ≤ start + length rest = entry-inside (row_for a) a.level (count_for image a) start rest e fine in
    let room : (p.start - start) + p.length ≤ leaves_end a.layout - start =
    omega (arith, after, within, start_fits image a b.0, length-take (leaves_end a.layout - start) (drop start image)) in
    let back : start + (p.start - start) ≡ p.start = omega (arith, after) in
    rw z
    (ap (λ (k : ℕ). take p.length (drop k image)) (sym back)
    ∙ ap (take p.length) (sym (drop-drop (p.start - start) start image))
    ∙ sym (inner p.length (p.start - start) (leaves_end a.layout - start) (drop start image) room)
    ∙ entry-bytes (row_for a) a.level (count_for image a) start rest e (record { start = 0; rest = [] }) fine l)
