-- The causes before 31 have other numbers, so none of them is met where 31 is answered; and below the newest level no block counts
-- as power. Assumes nothing.
use Prim.Native.Nat.{ℕ, zero, suc, ◌≤◌, ◌<◌}
use native.Mathlib.Omega.{arith}
use native.Mathlib.Nat.{le_refl}
use mathlib.Core.List.{List, [], ◌∷◌, ◌++◌}
use mathlib.Core.Path.{◌≡◌, refl, sym, ◌∙◌}
use mathlib.Core.Bool.{Bool, true, false, ◌&&◌, not}
use lib.Dec.{T, eqb, ltb}
use borrow.Author.Tests.{eqb-false, le-ltb}
use Rattle.rom.specs.Bytes.{pick, one, bit, any_below}
use Rattle.rom.specs.Refusal.{Cause, first_met}
use Rattle.rom.proofs.First.{after-accepted, after-refused}
use Rattle.rom.proofs.Fewer.{fewer}
use Rattle.format.specs.Chips.{newest_level}
use Rattle.format.specs.Block.{kind_of, facts_of, is_power, sets_mode, causes}
use Rattle.image.specs.declared.Arguments.{Arguments}
use Rattle.image.specs.Image.{is_first_version, magic_causes, image_causes, argument_causes, leaf_header_causes}
use Rattle.image.specs.Arguments.{row_for, header_causes, at_level}
use Rattle.image.proofs.Causes.{header-numbered}
use Rattle.leaf.specs.Leaf.{count_of, block_causes, clash_cause, mode_cause, whole_causes, leaf_causes}
use Rattle.leaf.proofs.Cuts.{blocks-numbered}
use Rattle.rom.proofs.Below.{any_same}
use Rattle.reader.specs.Reading.{blocks_for, leaf_causes_for, judge_causes, accepted_answer, answer_for, judge_answer}
use Rattle.older.specs.Claims.{ReadBelow}
use Rattle.older.proofs.Older.{count_down, blocks-down, clash-vanishes}
use Rattle.older.proofs.OlderAnswer.{older-counts}
use Rattle.older.proofs.OlderReadings.{header-down, answer-is, table_is}

-- ## Causes of other numbers than n

abbrev without : ℕ → List Cause → Bool
without n [] = true
without n (c ∷ cs) = not (eqb c.number n) && without n cs

without-append : (n : ℕ) (cs ds : List Cause) → T (without n cs) → T (without n ds) → T (without n (cs ++ ds))
without-append n [] ds t u = u
without-append n (c ∷ cs) ds t u = go (not (eqb c.number n)) t (without-append n cs ds)
  where
    go : (x : Bool) → T (x && without n cs) → (T (without n cs) → T (without n ds) → T (without n (cs ++ ds)))
        → T (x && without n (cs ++ ds))
    go true t later = later t u
    go false t later = t

-- do not answer n
without-unmet : (n : ℕ) (cs : List Cause) → (n ≡ 0 → ⊥) → T (without n cs) → first_met cs ≡ n → ⊥
unfolding first_met pick
without-unmet n [] z t e = z (sym e)
without-unmet n (c ∷ cs) z t e = go c.met e (eqb c.number n) refl t (without-unmet n cs z)
  where
    go : (x : Bool) → pick x c.number (first_met cs) ≡ n → (y : Bool) → eqb c.number n ≡ y → T (not y && without n cs)
        → (T (without n cs) → first_met cs ≡ n → ⊥)
        → ⊥
    go x e true f t later = absurd t
    go true e false f t later = eqb-false c.number n f e
    go false e false f t later = later t e

-- and are not met before others that answer n
not-met : (n : ℕ) (cs ds : List Cause) → (n ≡ 0 → ⊥) → T (without n cs) → first_met (cs ++ ds) ≡ n → first_met cs ≡ 0
not-met n cs ds z t e = go (first_met cs) refl
  where
    go : (m : ℕ) → first_met cs ≡ m → first_met cs ≡ 0
    go zero f = f
    go (suc m) f = absurd (without-unmet n cs z t (f ∙ sym (after-refused cs ds (suc m) (λ z. omega arith) f) ∙ e))

header-without : (image : List ℕ) (a : Arguments) → T (without 31 (header_causes image a))
unfolding header_causes image_causes magic_causes argument_causes leaf_header_causes
header-without image a = tt

blocks-without : (first : Bool) (row level : ℕ) (bs : List (List ℕ)) → T (without 31 (block_causes first row level bs))
unfolding block_causes causes
blocks-without first row level [] = tt
blocks-without first row level (s ∷ bs) =
    without-append 31 (causes first row level s) (block_causes first row level bs) tt (blocks-without first row level bs)

-- ## Below the newest level

module _ (row older : ℕ) (bs : List (List ℕ)) (h : older < newest_level) where
  no_power : count_of (is_power row older) bs ≡ 0
  unfolding pick
  no_power = (older-counts row older newest_level bs (omega arith)).3 ∙ rw (le-ltb 6 older (omega arith))

  unset : (k : ℕ) → ltb 1 (count_of (sets_mode row older k) bs) ≡ false
  unfolding sets_mode
  unset k =
      let less = count_down (is_power row older) (sets_mode row older k)
      (λ s. few (is_power row older s) (bit k (facts_of (kind_of row s) s).mode)) bs in
      le-ltb 1 (count_of (sets_mode row older k) bs) (omega (arith, no_power, less))
    where
      few : (p b : Bool) → one (p && b) ≤ one p
      few true true = le_refl _
      few true false = omega arith
      few false b = omega arith

  no_mode : (mode_cause row older bs).met ≡ false
  unfolding mode_cause any_below
  no_mode = any_same _ (λ k. false) 8 unset

-- ## An image that is refused with 31

module _ (image : List ℕ) (a : Arguments) (older : ℕ) (h : older < newest_level)
    (e : first_met (judge_causes image (at_level a newest_level)) ≡ 31) where
  abbrev bs : List (List ℕ)
  bs = blocks_for image a

  abbrev first : Bool
  first = is_first_version image

  down : older ≤ newest_level
  down = omega arith

  header-fine : first_met (header_causes image (at_level a newest_level)) ≡ 0
  unfolding judge_causes
  header-fine = not-met 31 _ _ (λ z. omega arith) (header-without image (at_level a newest_level)) e

  leaf-31 : first_met (leaf_causes first (row_for a) newest_level bs) ≡ 31
  unfolding judge_causes leaf_causes_for
  leaf-31 = sym (after-accepted _ _ (header-numbered image (at_level a newest_level)) header-fine) ∙ e

  blocks-fine : first_met (block_causes first (row_for a) newest_level bs) ≡ 0
  unfolding leaf_causes
  blocks-fine = not-met 31 _ _ (λ z. omega arith) (blocks-without first (row_for a) newest_level bs) leaf-31

  no-clash : (clash_cause (row_for a) newest_level bs).met ≡ false
  unfolding leaf_causes whole_causes clash_cause first_met pick
  no-clash = go (clash_cause (row_for a) newest_level bs).met refl
      (sym (after-accepted (block_causes first (row_for a) newest_level bs) _ (blocks-numbered first (row_for a) newest_level bs)
      blocks-fine)
      ∙ leaf-31)
    where
      go : (t : Bool) → (clash_cause (row_for a) newest_level bs).met ≡ t
          → pick t 18 (pick (mode_cause (row_for a) newest_level bs).met (mode_cause (row_for a) newest_level bs).number 0) ≡ 31
          → (clash_cause (row_for a) newest_level bs).met ≡ false
      go true f g = absurd (omega arith)
      go false f g = f

  whole_below : first_met (whole_causes (row_for a) older bs) ≡ 0
  unfolding whole_causes first_met pick
  whole_below = rw (clash-vanishes (row_for a) older newest_level bs down no-clash, no_mode (row_for a) older bs h)

  accepted-below : first_met (judge_causes image (at_level a older)) ≡ 0
  unfolding judge_causes leaf_causes_for leaf_causes
  accepted-below =
      after-accepted (header_causes image (at_level a older)) (leaf_causes first (row_for a) older bs)
      (header-numbered image (at_level a older))
      (fewer (header-numbered image (at_level a newest_level)) (header-down image a older newest_level down) header-fine)
      ∙ after-accepted (block_causes first (row_for a) older bs) (whole_causes (row_for a) older bs)
      (blocks-numbered first (row_for a) older bs)
      (fewer (blocks-numbered first (row_for a) newest_level bs) (blocks-down first (row_for a) older newest_level down bs) blocks-fine)
      ∙ whole_below

  answered : judge_answer image (at_level a older) ≡ accepted_answer image (at_level a older)
  unfolding judge_answer answer_for pick
  answered = rw accepted-below

pub read_below : ReadBelow
read_below image a older h e = (
  answered image a older h e,
  λ o r. (
    answer-is image (at_level a older) (accepted-below image a older h e) o r,
    table_is image (at_level a older) (accepted-below image a older h e) o r,
  ),
)
