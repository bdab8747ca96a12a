-- The older answer's counts, block by block, and its default number. Assumes nothing.
use Prim.Native.Nat.{ℕ, suc, ◌+◌, ◌-◌, ◌≤◌}
use native.Mathlib.Omega.{arith}
use native.Mathlib.Nat.{sub-zero}
use mathlib.Core.List.{List, [], ◌∷◌}
use mathlib.Core.Path.{◌≡◌, refl, sym, ◌∙◌}
use mathlib.Core.Bool.{Bool, true, false, ◌&&◌, not}
use lib.Dec.{eqb, ltb}
use lib.ListN.{get_or}
use borrow.Author.Tests.{eqb-true}
use Rattle.rom.specs.Geometry.{none}
use Rattle.rom.specs.Bytes.{pick, one}
use Rattle.rom.proofs.Truth.{true-false}
use Rattle.format.specs.Block.{kind_of, is_known, facts_of, is_medium, is_listed, is_reset, is_power, is_skipped, is_default}
use Rattle.format.proofs.Levels.{known_up, and-down}
use Rattle.leaf.specs.Leaf.{count_of, first_from}
use Rattle.older.specs.Claims.{OlderCounts, OlderDefault}
use Rattle.older.proofs.Numbered.{FoundFirst, absent, at, found_first}

count-sum : (p q r : List ℕ → Bool) → ((s : List ℕ) → one (p s) + one (q s) ≡ one (r s)) → (bs : List (List ℕ))
    → count_of p bs + count_of q bs ≡ count_of r bs
unfolding count_of
count-sum p q r h [] = refl
count-sum p q r h (s ∷ bs) = omega (arith, h s, count-sum p q r h bs)

count-if : (t : Bool) (p q : List ℕ → Bool) → ((s : List ℕ) → p s ≡ (t && q s)) → (bs : List (List ℕ))
    → count_of p bs ≡ pick t (count_of q bs) 0
unfolding count_of pick
count-if true p q h [] = refl
count-if false p q h [] = refl
count-if true p q h (s ∷ bs) = rw (h s, count-if true p q h bs)
count-if false p q h (s ∷ bs) = rw (h s, count-if false p q h bs)

-- k is what the newest knows, l what the older does
kept-removed : (k l x : Bool) → (l ≡ true → k ≡ true) → one (l && x) + one ((k && x) && not l) ≡ one (k && x)
kept-removed k true x h = rw (h refl) (go x)
  where
    go : (x : Bool) → one x + one (x && false) ≡ one x
    go true = refl
    go false = refl
kept-removed true false true h = refl
kept-removed true false false h = refl
kept-removed false false x h = refl

skipped-more : (k l : Bool) → (l ≡ true → k ≡ true) → one (not k) + one (k && not l) ≡ one (not l)
skipped-more k true h = rw (h refl)
skipped-more true false h = refl
skipped-more false false h = refl

-- blocks of a type n, at the older level as at the newest where it knows n, and else none
of-type : (n older newest kind : ℕ) → is_known older n ≡ ltb n older → older ≤ newest
    → (is_known older kind && eqb kind n) ≡ (ltb n older && (is_known newest kind && eqb kind n))
of-type n older newest kind z h = go (eqb kind n) (eqb-true kind n)
  where
    here : (is_known older n && true) ≡ (ltb n older && (is_known newest n && true))
    here = rw (← z) (known (is_known older n) (is_known newest n) (known_up older newest n h))
      where
        known : (l k : Bool) → (l ≡ true → k ≡ true) → (l && true) ≡ (l && (k && true))
        known true k g = rw (g refl)
        known false k g = refl

    go : (t : Bool) → (t ≡ true → kind ≡ n) → (is_known older kind && t) ≡ (ltb n older && (is_known newest kind && t))
    go true e = rw (e refl) here
    go false e = never (is_known older kind) (is_known newest kind) (ltb n older)
      where
        never : (a b c : Bool) → (a && false) ≡ (c && (b && false))
        never true true true = refl
        never true true false = refl
        never true false true = refl
        never true false false = refl
        never false true true = refl
        never false true false = refl
        never false false true = refl
        never false false false = refl

pub older-counts : OlderCounts
unfolding is_listed is_reset is_power is_skipped is_known
older-counts row older newest bs h = (
  count-if (ltb 5 older) _ _ (λ s. of-type 5 older newest (kind_of row s) refl h) bs,
  count-sum _ _ _
      (λ s. kept-removed (is_known newest (kind_of row s)) (is_known older (kind_of row s)) (is_medium (kind_of row s))
      (known_up older newest (kind_of row s) h)) bs,
  count-sum _ _ _
      (λ s. skipped-more (is_known newest (kind_of row s)) (is_known older (kind_of row s)) (known_up older newest (kind_of row s) h)) bs,
  count-if (ltb 6 older) _ _ (λ s. of-type 6 older newest (kind_of row s) refl h) bs,
)

-- ## The default number

-- what is default at an older level is default at the newest
default-less : (row older newest : ℕ) (s : List ℕ) → older ≤ newest → is_default row newest s ≡ false → is_default row older s ≡ false
unfolding is_default
default-less row older newest s h =
    and-down (is_known newest (kind_of row s)) (is_known older (kind_of row s)) (facts_of (kind_of row s) s).is_default
    (known_up older newest (kind_of row s) h)

-- a default of the newest level is the older one's where that knows it
default-known : (row older newest : ℕ) (s : List ℕ) → is_default row newest s ≡ true → is_default row older s
    ≡ is_known older (kind_of row s)
unfolding is_default
default-known row older newest s = go (is_known newest (kind_of row s)) (is_known older (kind_of row s))
    (facts_of (kind_of row s) s).is_default
  where
    go : (k l x : Bool) → (k && x) ≡ true → (l && x) ≡ l
    go true true x e = e
    go true false x e = refl
    go false l x e = true-false (sym e)

no_default : (row older newest k : ℕ) (bs : List (List ℕ)) → older ≤ newest → count_of (is_default row newest) bs ≡ 0
    → first_from (is_default row older) k bs ≡ none
unfolding count_of first_from pick
no_default row older newest k [] h e = refl
no_default row older newest k (s ∷ bs) h e = go (is_default row newest s) refl e (no_default row older newest (k + 1) bs h)
  where
    go : (t : Bool) → is_default row newest s ≡ t → one t + count_of (is_default row newest) bs ≡ 0
        → (count_of (is_default row newest) bs ≡ 0 → first_from (is_default row older) (k + 1) bs ≡ none)
        → pick (is_default row older s) k (first_from (is_default row older) (k + 1) bs) ≡ none
    go true f e ih = absurd (omega arith)
    go false f e ih = rw (default-less row older newest s h f) (ih (omega arith))

module _ (row older : ℕ) where
  kept-number : List (List ℕ) → ℕ → ℕ → ℕ
  kept-number bs k n = pick (is_known older (kind_of row (get_or bs (n - k) []))) n none

  past_first : (p : List ℕ → Bool) (s : List ℕ) (bs : List (List ℕ)) (k n : ℕ) → FoundFirst p (k + 1) bs n
      → kept-number bs (k + 1) n ≡ kept-number (s ∷ bs) k n
  unfolding kept-number pick
  past_first p s bs k n absent = same (is_known older (kind_of row (get_or bs (none - (k + 1)) [])))
      ∙ sym (same (is_known older (kind_of row (get_or (s ∷ bs) (none - k) []))))
    where
      same : (t : Bool) → ◌≡◌ {A = ℕ} (pick t none none) none
      same true = refl
      same false = refl
  past_first p s bs k n (at j q b) =
      let e : n - k ≡ suc (n - (k + 1)) = omega arith in
      rw e

  default-from : (newest k : ℕ) (bs : List (List ℕ)) → older ≤ newest → count_of (is_default row newest) bs ≤ 1
      → first_from (is_default row older) k bs ≡ kept-number bs k (first_from (is_default row newest) k bs)
  unfolding count_of first_from pick kept-number
  default-from newest k [] h l = go (is_known older (kind_of row (get_or [] (none - k) [])))
    where
      go : (t : Bool) → ◌≡◌ {A = ℕ} none (pick t none none)
      go true = refl
      go false = refl
  default-from newest k (s ∷ bs) h l = go (is_default row newest s) refl l (default-from newest (k + 1) bs h)
    where
      go : (t : Bool) → is_default row newest s ≡ t → one t + count_of (is_default row newest) bs ≤ 1
          → (count_of (is_default row newest) bs ≤ 1
          → first_from (is_default row older) (k + 1) bs ≡ kept-number bs (k + 1) (first_from (is_default row newest) (k + 1) bs))
          → pick (is_default row older s) k (first_from (is_default row older) (k + 1) bs)
          ≡ kept-number (s ∷ bs) k (pick t k (first_from (is_default row newest) (k + 1) bs))
      go true f l ih =
          let z : count_of (is_default row newest) bs ≡ 0 = omega arith in
          let e : k - k ≡ 0 = omega arith in
          rw (default-known row older newest s f, no_default row older newest (k + 1) bs h z, e)
      go false f l ih =
          rw (default-less row older newest s h f)
          (ih (omega arith) ∙ past_first (is_default row newest) s bs k _ (found_first (is_default row newest) (k + 1) bs))

pub older-default : OlderDefault
unfolding kept-number
older-default row older newest bs h l = default-from row older newest 0 bs h l ∙ rw sub-zero
