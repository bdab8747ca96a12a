-- 33 is the number of one cause alone: the reader's numbers and the writer's own are others. Assumes nothing.
use Prim.Native.Nat.{ℕ}
use mathlib.Core.Path.{◌≡◌, refl, sym, ap, ◌∙◌}
use mathlib.Core.Bool.{Bool, true, false, ◌||◌, not}
use mathlib.Core.List.{List, [], ◌∷◌, ◌++◌}
use native.Mathlib.Omega.{arith}
use lib.ListN.{length}
use lib.Dec.{eqb, ltb}
use borrow.Author.Tests.{eq-eqb, ne_eqb, lt-ltb, le-ltb}
use Rattle.rom.specs.declared.Layout.{Layout}
use Rattle.rom.specs.Geometry.{small_size, other_size}
use Rattle.rom.specs.Bytes.{pick}
use Rattle.rom.specs.Refusal.{Cause, ◌⇒◌, first_met}
use Rattle.rom.proofs.Truth.{true-false}
use Rattle.rom.proofs.Reached.{reached, stop}
use Rattle.format.specs.Block.{causes}
use Rattle.image.specs.declared.Arguments.{Arguments}
use Rattle.image.specs.Image.{magic_causes, image_causes, argument_causes, leaf_header_causes}
use Rattle.image.specs.Arguments.{row_for, leaf_for, edition_for, header_causes}
use Rattle.leaf.specs.Leaf.{block_causes, leaf_causes, whole_causes, clash_cause, mode_cause}
use Rattle.reader.specs.Reading.{leaf_causes_for, judge_causes}
use Rattle.sheet.specs.declared.Form.{Form}
use Rattle.sheet.specs.declared.Form.TheVariants.{Narrow, Wide}
use Rattle.sheet.specs.Form.{is_beyond, count_in, total_in}
use Rattle.sheet.specs.Sheet.{sheet_from, is_sheet}
use Rattle.sheet.specs.Image.{image_of, newest_in}
use Rattle.sheet.specs.Write.{too_many_blocks, wrong_output, record_causes, write_causes, write_number}
use Rattle.sheet.specs.Make.{make_causes, make_number}
use Rattle.sheet.specs.Convert.{converted, too_large, convert_causes, convert_number}
use Rattle.sheet.specs.Claims.{TooLargeExactly, NarrowKeeps}
use Rattle.sheet.proofs.Conversions.{converter-order}
use Rattle.sheet.proofs.Returns.{writer-order}

-- ## Causes whose numbers are others

abbrev Others : List Cause → Type 0
Others [] = Unit {0}
Others (c ∷ cs) = (eqb c.number 33 ≡ false) × Others cs

others-append : (cs ds : List Cause) → Others cs → Others ds → Others (cs ++ ds)
others-append [] ds u v = v
others-append (c ∷ cs) ds u v = (u.0, others-append cs ds u.1 v)

others : (cs : List Cause) → Others cs → eqb (first_met cs) 33 ≡ false
unfolding first_met pick
others [] u = refl
others (c ∷ cs) u = go c.met (others cs u.1)
  where
    go : (b : Bool) → eqb (first_met cs) 33 ≡ false → eqb (pick b c.number (first_met cs)) 33 ≡ false
    go true h = u.0
    go false h = h

blocks-others : (first : Bool) (row level : ℕ) (bs : List (List ℕ)) → Others (block_causes first row level bs)
unfolding block_causes causes
blocks-others first row level [] = tt
blocks-others first row level (s ∷ bs) =
    others-append (causes first row level s) (block_causes first row level bs) (refl, (refl, (refl, (refl, (refl, tt)))))
    (blocks-others first row level bs)

header-others : (image : List ℕ) (a : Arguments) → Others (header_causes image a)
unfolding header_causes image_causes magic_causes argument_causes leaf_header_causes
header-others image a =
    let leaf = leaf_header_causes a.layout image (edition_for image a) (row_for a) (leaf_for image a) in
    others-append (image_causes a.layout image) (argument_causes image a ++ leaf)
    (refl, (refl, (refl, (refl, (refl, (refl, (refl, tt)))))))
    (others-append (argument_causes image a) leaf (refl, (refl, (refl, (refl, (refl, tt))))) (refl, (refl, tt)))

leaf-others : (first : Bool) (row level : ℕ) (bs : List (List ℕ)) → Others (leaf_causes first row level bs)
unfolding leaf_causes whole_causes clash_cause mode_cause
leaf-others first row level bs =
    others-append (block_causes first row level bs) (whole_causes row level bs) (blocks-others first row level bs) (refl, (refl, tt))

judge-others : (image : List ℕ) (a : Arguments) → Others (judge_causes image a)
unfolding judge_causes leaf_causes_for
judge-others image a = others-append (header_causes image a) _ (header-others image a) (leaf-others _ _ _ _)

-- ## The writer

module _ (form : Form) (l : Layout) (edition : Bool) (s out : List ℕ) where
  abbrev judging : List Cause
  judging = judge_causes (image_of l (sheet_from form s) out) (newest_in l edition (sheet_from form s).chip)

  abbrev behind : List Cause
  behind = (1 ⇒ wrong_output form l (length out)) ∷ (record_causes l (sheet_from form s) ++ judging)

  behind-others : eqb (first_met behind) 33 ≡ false
  unfolding record_causes
  behind-others =
      others behind (
        refl,
        others-append (record_causes l (sheet_from form s)) judging (refl, (refl, (refl, tt)))
            (judge-others (image_of l (sheet_from form s) out) (newest_in l edition (sheet_from form s).chip)),
      )

  write-other : too_many_blocks form s ≡ false → write_number form l edition s out ≡ 33 → ⊥
  unfolding write_number write_causes first_met pick
  write-other few h =
      go (not (is_sheet form s))
      (ap (λ (b : Bool). pick (not (is_sheet form s)) 24 (pick b 33 (first_met behind))) (sym few) ∙ h)
    where
      go : (b : Bool) → pick b 24 (first_met behind) ≡ 33 → ⊥
      go true e = omega arith
      go false e = true-false (sym (eq-eqb (first_met behind) 33 e) ∙ behind-others)

-- ## The converters

convert-other : (from : Form) (s : List ℕ) (room : ℕ) → too_large from s ≡ false → convert_number from s room ≡ 33 → ⊥
unfolding convert_number convert_causes first_met pick
convert-other from s room small h =
    go (not (is_sheet from s)) (ltb room (length (converted from s)))
    (ap (λ (b : Bool). pick (not (is_sheet from s)) 24 (pick b 33 (pick (ltb room (length (converted from s))) 12 0))) (sym small) ∙ h)
  where
    go : (b c : Bool) → ◌≡◌ {A = ℕ} (pick b 24 (pick c 12 0)) 33 → ⊥
    go true c e = omega arith
    go false true e = omega arith
    go false false e = omega arith

pub too-large-exactly : TooLargeExactly
unfolding too_many_blocks too_large
too-large-exactly = (
  λ l edition s out room. (write-other Narrow l edition s out refl, convert-other Narrow s room refl),
  λ l edition s out room is. (
    λ many. (
      ((writer-order Wide l edition s out).1 is).0 (lt-ltb 255 (count_in Wide s) many),
      ((converter-order Wide s room).1 is).0
          (first (ltb 255 (count_in Wide s)) (ltb 255 (total_in Wide s)) (lt-ltb 255 (count_in Wide s) many)),
    ),
    λ few. (
      write-other Wide l edition s out (le-ltb 255 (count_in Wide s) few),
      λ large. ((converter-order Wide s room).1 is).0 (second (ltb 255 (count_in Wide s)) (ltb 255 (total_in Wide s))
          (lt-ltb 255 (total_in Wide s) large)),
      λ small. convert-other Wide s room (neither (ltb 255 (count_in Wide s)) (ltb 255 (total_in Wide s))
          (le-ltb 255 (count_in Wide s) few) (le-ltb 255 (total_in Wide s) small)),
    ),
  ),
)
  where
    first : (a b : Bool) → a ≡ true → (a || b) ≡ true
    first a b e = simp e

    second : (a b : Bool) → b ≡ true → (a || b) ≡ true
    second true b e = refl
    second false b e = e

    neither : (a b : Bool) → a ≡ false → b ≡ false → (a || b) ≡ false
    neither a b e f = simp (e, f)

-- ## The sizes that the narrow form does not serve

not-served : (l : Layout) → (l.size ≡ small_size → ⊥) → is_beyond Narrow l.size ≡ true
unfolding is_beyond other_size
not-served l h = ap not (ne_eqb l.size small_size h)

not_written : (l : Layout) (n : ℕ) → (l.size ≡ small_size → ⊥) → wrong_output Narrow l n ≡ true
unfolding wrong_output
not_written l n h = simp (not-served l h)

pub narrow_keeps : NarrowKeeps
unfolding too_many_blocks make_number make_causes
narrow_keeps l edition h = (
  λ s out is. (((writer-order Narrow l edition s out).1 is).1 refl).0 (not_written l (length out) h),
  λ image chip room. sym (reached (stop (not-served l h))),
)
