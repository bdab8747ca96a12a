-- The older reading against the newest: causes can only vanish, and the older table is a filter of the newest. Assumes nothing.
use Prim.Native.Nat.{ℕ, ◌+◌, ◌≤◌, ◌<◌}
use native.Mathlib.Omega.{arith}
use mathlib.Core.List.{List, [], ◌∷◌, map}
use mathlib.Core.Path.{◌≡◌, refl, ap, sym, ◌∙◌}
use mathlib.Core.Bool.{Bool, true, false, not}
use lib.ListN.{length, take, drop, length-map}
use lib.Seq.{take_at}
use borrow.Author.Tests.{ltb-false, le-ltb}
use Rattle.rom.specs.Geometry.{none}
use Rattle.rom.specs.Bytes.{pick, keep}
use Rattle.rom.specs.Refusal.{Cause, first_met}
use Rattle.rom.proofs.First.{after-accepted, both-accepted}
use Rattle.rom.proofs.Fewer.{Fewer, end, and, fewer, fewer-append}
use Rattle.format.specs.Chips.{newest_level}
use Rattle.format.specs.Block.{is_known, is_listed}
use Rattle.image.specs.declared.Arguments.{Arguments}
use Rattle.image.specs.Image.{is_first_version, up_to_leaves_end, image_causes, argument_causes, leaf_header_causes}
use Rattle.image.specs.Arguments.{row_for, edition_for, leaf_for, start_for, count_for, header_causes, at_level}
use Rattle.image.proofs.Causes.{header-numbered}
use Rattle.leaf.specs.Leaf.{PlacedBlock, count_of, table_of, kind_at, start_at}
use Rattle.leaf.proofs.Tables.{listed-length}
use Rattle.leaf.proofs.Sorts.{accepted-defaults}
use Rattle.reader.specs.Table.{tabled}
use Rattle.reader.specs.Reading.{blocks_for, table_for, leaf_causes_for, judge_causes, read_causes, accepted_answer}
use Rattle.reader.specs.Reading.{answer_for, read_answer}
use Rattle.reader.specs.Reading.{read_into, read_kinds, read_offsets}
use Rattle.older.specs.Levels.{is_kept, removed_block}
use Rattle.older.specs.Written.{Arrays, Room, TableEntry, as_entry, entries, answer_of, table_in, removed, kept}
use Rattle.older.specs.Claims.{ReadsAgree}
use Rattle.older.proofs.Older.{older-accepts, older-table}
use Rattle.older.proofs.OlderAnswer.{older-counts, older-default}
use Rattle.older.proofs.Numbered.{default-kept}

-- ## Acceptance goes down the levels

fewer-same : (cs : List Cause) → Fewer cs cs
fewer-same [] = end
fewer-same (c ∷ cs) = and (λ e. e) (fewer-same cs)

pub header-down : (image : List ℕ) (a : Arguments) (older newest : ℕ) → older ≤ newest
    → Fewer (header_causes image (at_level a newest)) (header_causes image (at_level a older))
unfolding header_causes argument_causes
header-down image a older newest h =
    fewer-append (fewer-same (image_causes a.layout image))
    (fewer-append
    (and (λ e. e)
    (and (λ e. e) (and (λ e. e) (and (λ e. le-ltb newest_level older (omega (arith, ltb-false newest_level newest e)))
    (and (λ e. e) end)))))
    (fewer-same (leaf_header_causes a.layout image (edition_for image a) (row_for a) (leaf_for image a))))

-- an accepted reading has an accepted header and an accepted leaf
pub reading-parts : (image : List ℕ) (a : Arguments) → first_met (judge_causes image a) ≡ 0
    → (first_met (header_causes image a) ≡ 0) × (first_met (leaf_causes_for image a) ≡ 0)
unfolding judge_causes
reading-parts image a e = both-accepted (header_causes image a) (leaf_causes_for image a) (header-numbered image a) e

pub judge-down : (image : List ℕ) (a : Arguments) (older newest : ℕ) → older ≤ newest → first_met (judge_causes image (at_level a newest))
    ≡ 0
    → first_met (judge_causes image (at_level a older)) ≡ 0
unfolding judge_causes leaf_causes_for
judge-down image a older newest h e =
    let b = reading-parts image (at_level a newest) e in
    let header = fewer (header-numbered image (at_level a newest)) (header-down image a older newest h) b.0 in
    after-accepted (header_causes image (at_level a older)) _ (header-numbered image (at_level a older)) header
    ∙ older-accepts (is_first_version image) (row_for a) older newest (blocks_for image a) h b.1

-- ## What an accepted reading answers and writes

entries-map : (row : ℕ) (t : List PlacedBlock) → entries (map (kind_at row) t) (map start_at t) ≡ map (as_entry row) t
unfolding entries
entries-map row [] = refl
entries-map row (p ∷ t) = ap (λ (es : List TableEntry). as_entry row p ∷ es) (entries-map row t)

take-tabled : (f : PlacedBlock → ℕ) (t : List PlacedBlock) (array : List ℕ) (n : ℕ) → n ≡ length t → take n (tabled f t array) ≡ map f t
unfolding tabled
take-tabled f t array n e = take_at (map f t) (drop (length t) array) n (length-map t f ∙ sym e)

module _ (image : List ℕ) (a : Arguments) (e : first_met (judge_causes image a) ≡ 0) (arrays : Arrays) (room : Room image a arrays) where
  no-cause : first_met (read_causes image a (length arrays.kinds) (length arrays.offsets)) ≡ 0
  unfolding read_causes first_met pick
  no-cause =
      let b = reading-parts image a e in
      after-accepted (header_causes image a) _ (header-numbered image a) b.0
      ∙ simp (le-ltb (length arrays.kinds) (count_for image a) room.0, le-ltb (length arrays.offsets) (count_for image a) room.1)
      b.1

  pub answer-is : answer_of image a arrays ≡ accepted_answer image a
  unfolding answer_of read_answer answer_for pick
  answer-is = rw no-cause

  pub table_is : table_in image a arrays ≡ map (as_entry (row_for a)) (table_for image a)
  unfolding table_in read_kinds read_offsets read_into pick accepted_answer
  table_is =
      let n : count_of (is_listed (row_for a) a.level) (blocks_for image a) ≡ length (table_for image a) =
      sym (listed-length (row_for a) a.level (count_for image a) (start_for image a)
      (up_to_leaves_end a.layout image (start_for image a))) in
      rw (
        answer-is,
        no-cause,
        take-tabled (kind_at (row_for a)) (table_for image a) arrays.kinds _ n,
        take-tabled start_at (table_for image a) arrays.offsets _ n,
      )
      (entries-map (row_for a) (table_for image a))

-- ## The older table

keep-map : (row older : ℕ) (t : List PlacedBlock) → map (as_entry row) (keep (is_kept row older) t)
    ≡ keep (kept older) (map (as_entry row) t)
unfolding keep pick
keep-map row older [] = refl
keep-map row older (p ∷ t) = go (is_kept row older p) (keep-map row older t)
  where
    go : (x : Bool) → map (as_entry row) (keep (is_kept row older) t) ≡ keep (kept older) (map (as_entry row) t)
        → map (as_entry row) (pick x (p ∷ keep (is_kept row older) t) (keep (is_kept row older) t))
        ≡ pick x (as_entry row p ∷ keep (kept older) (map (as_entry row) t)) (keep (kept older) (map (as_entry row) t))
    go true ih = ap (λ (es : List TableEntry). as_entry row p ∷ es) ih
    go false ih = ih

both-lengths : (older : ℕ) (es : List TableEntry) → length (keep (kept older) es) + length (keep (removed older) es) ≡ length es
unfolding keep pick
both-lengths older [] = refl
both-lengths older (e ∷ es) = go (is_known older e.kind) (both-lengths older es)
  where
    go : (x : Bool) → length (keep (kept older) es) + length (keep (removed older) es) ≡ length es
        → length (pick x (e ∷ keep (kept older) es) (keep (kept older) es)) + length
        (pick (not x) (e ∷ keep (removed older) es) (keep (removed older) es)) ≡ length (e ∷ es)
    go true ih = omega arith
    go false ih = omega arith

-- ## The older reading

module _ (image : List ℕ) (a : Arguments) (older : ℕ) (h : older < newest_level)
    (e : first_met (judge_causes image (at_level a newest_level)) ≡ 0) where
  abbrev new : Arguments
  new = at_level a newest_level

  abbrev old : Arguments
  old = at_level a older

  down : older ≤ newest_level
  down = omega arith

  pub default-number : (accepted_answer image old).default_number
      ≡ pick (removed_block image a older (accepted_answer image new).default_number) none (accepted_answer image new).default_number
  unfolding accepted_answer leaf_causes_for
  default-number =
      older-default (row_for a) older newest_level (blocks_for image a) down
      (accepted-defaults (is_first_version image) (row_for a) newest_level (blocks_for image a) (reading-parts image new e).1)
      ∙ default-kept (row_for a) older newest_level (blocks_for image a)

  filtered : map (as_entry (row_for a)) (table_for image old) ≡ keep (kept older) (map (as_entry (row_for a)) (table_for image new))
  unfolding table_of
  filtered =
      ap (map (as_entry (row_for a))) (older-table (row_for a) older newest_level _ down) ∙ keep-map (row_for a) older (table_for image new)

  listed-table : (b : Arguments) → length (map (as_entry (row_for b)) (table_for image b)) ≡ (accepted_answer image b).listed
  unfolding accepted_answer
  listed-table b = length-map (table_for image b) _
      ∙ listed-length (row_for b) b.level (count_for image b) (start_for image b) (up_to_leaves_end b.layout image (start_for image b))

  pub reads-agree : ReadsAgree image a older
  unfolding accepted_answer pick
  reads-agree n o rn ro =
      let e' = judge-down image a older newest_level down e in
      let counts = older-counts (row_for a) older newest_level (blocks_for image a) down in
      rw (answer-is image new e n rn, table_is image new e n rn, answer-is image old e' o ro, table_is image old e' o ro)
      (record {
        accepts = refl;
        connection = refl;
        control = refl;
        address = refl;
        blocks = refl;
        «default» = default-number;
        resets = counts.0;
        listed =
            omega (
              arith,
              listed-table old,
              ap length filtered,
              both-lengths older (map (as_entry (row_for a)) (table_for image new)),
              listed-table new,
            );
        skipped = sym counts.2;
        power = counts.3 ∙ rw (le-ltb 6 older (omega arith));
        table = filtered;
      })
