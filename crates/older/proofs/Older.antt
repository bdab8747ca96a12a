-- The older table is a filter after a filter, of a reversed list; acceptance goes down since each cause can only vanish.
-- Assumes nothing.
use Prim.Native.Nat.{ℕ, zero, suc, ◌≤◌}
use native.Mathlib.Omega.{arith}
use native.Mathlib.Nat.{le_refl}
use mathlib.Core.List.{List, [], ◌∷◌, ◌++◌, reverse, reverse-cons, append-nil}
use mathlib.Core.Path.{◌≡◌, refl, ap, sym, ◌∙◌}
use mathlib.Core.Bool.{Bool, true, false, ◌||◌, ◌&&◌}
use lib.Dec.{eqb, ltb}
use borrow.Author.Tests.{ltb-false, le-ltb}
use Rattle.rom.specs.Bytes.{pick, one, bit, any_below, keep}
use Rattle.rom.proofs.Fewer.{Fewer, end, and, fewer, fewer-append}
use Rattle.rom.proofs.Truth.{true-false}
use Rattle.format.specs.Block.{kind_of, is_known, facts_of, is_medium, is_listed, is_reset, is_power, is_default, resets_a_phy, sets_mode}
use Rattle.format.proofs.Levels.{known_up, causes-down}
use Rattle.leaf.specs.Leaf.{PlacedBlock, table, count_of, clash, block_causes, clash_cause, mode_cause, whole_causes, leaf_causes}
use Rattle.leaf.proofs.Cuts.{leaf-numbered}
use Rattle.older.specs.Claims.{OlderTable, OlderAccepts}
use Rattle.older.specs.Levels.{is_kept}

keep-keep : (p q r : PlacedBlock → Bool) → ((b : PlacedBlock) → p b ≡ (q b && r b)) → (bs : List PlacedBlock) → keep p bs ≡ keep q
    (keep r bs)
unfolding keep pick
keep-keep p q r e [] = refl
keep-keep p q r e (b ∷ bs) = rw e (go (q b) (r b) refl (keep-keep p q r e bs))
  where
    go : (x y : Bool) → q b ≡ x → keep p bs ≡ keep q (keep r bs)
        → pick (x && y) (b ∷ keep p bs) (keep p bs) ≡ keep q (pick y (b ∷ keep r bs) (keep r bs))
    go true true h ih = rw h (ap (λ (l : List PlacedBlock). b ∷ l) ih)
    go true false h ih = ih
    go false true h ih = rw h ih
    go false false h ih = ih

keep_append : (p : PlacedBlock → Bool) (xs bs : List PlacedBlock) → keep p (xs ++ bs) ≡ keep p xs ++ keep p bs
unfolding keep pick
keep_append p [] bs = refl
keep_append p (a ∷ xs) bs = rw (keep_append p xs bs) (go (p a))
  where
    go : (x : Bool) → pick x (a ∷ (keep p xs ++ keep p bs)) (keep p xs ++ keep p bs) ≡ pick x (a ∷ keep p xs) (keep p xs) ++ keep p bs
    go true = refl
    go false = refl

keep-reverse : (p : PlacedBlock → Bool) (bs : List PlacedBlock) → keep p (reverse bs) ≡ reverse (keep p bs)
unfolding keep pick
keep-reverse p [] = refl
keep-reverse p (b ∷ bs) = rw (reverse-cons, keep_append, keep-reverse p bs) (go (p b))
  where
    go : (x : Bool) → reverse (keep p bs) ++ pick x (b ∷ []) [] ≡ reverse (pick x (b ∷ keep p bs) (keep p bs))
    go true = sym (reverse-cons b (keep p bs))
    go false = append-nil (reverse (keep p bs))

both : (k l x : Bool) → (l ≡ true → k ≡ true) → (l && x) ≡ (l && (k && x))
both k true x h = rw (h refl)
both k false x h = refl

pub older-table : OlderTable
unfolding table is_listed
older-table row older newest bs h =
    ap reverse
    (keep-keep _ (is_kept row older) _
    (λ b. both (is_known newest (kind_of row b.rest)) (is_known older (kind_of row b.rest)) (is_medium (kind_of row b.rest))
    (known_up older newest (kind_of row b.rest) h)) bs)
    ∙ sym (keep-reverse (is_kept row older) _)

-- a count can only fall
one_down : (k l x : Bool) → (l ≡ true → k ≡ true) → one (l && x) ≤ one (k && x)
one_down k true x h = rw (h refl) (le_refl _)
one_down k false x h = omega arith

one-down-both : (k l x y : Bool) → (l ≡ true → k ≡ true) → one (l && x && y) ≤ one (k && x && y)
one-down-both k true x y h = rw (h refl) (le_refl _)
one-down-both k false x y h = omega arith

pub count_down : (p q : List ℕ → Bool) → ((s : List ℕ) → one (q s) ≤ one (p s)) → (bs : List (List ℕ)) → count_of q bs ≤ count_of p bs
unfolding count_of
count_down p q h [] = omega arith
count_down p q h (s ∷ bs) = omega (arith, h s, count_down p q h bs)

-- tests of which each part can only turn false
or_mono : (p q r s : Bool) → (p ≡ false → r ≡ false) → (q ≡ false → s ≡ false) → (p || q) ≡ false → (r || s) ≡ false
or_mono true q r s f g e = true-false e
or_mono false q r s f g e = rw (f refl) (g e)

and_mono : (p q r s : Bool) → (p ≡ false → r ≡ false) → (q ≡ false → s ≡ false) → (p && q) ≡ false → (r && s) ≡ false
and_mono false q r s f g e = rw (f refl)
and_mono true q true s f g e = g e
and_mono true q false s f g e = refl

low : (n a x : ℕ) → x ≤ a → ltb n a ≡ false → ltb n x ≡ false
low n a x h e = le-ltb n x (omega (arith, ltb-false n a e))

clash-down : (a b c x y z : ℕ) → x ≤ a → y ≤ b → z ≤ c → clash a b c ≡ false → clash x y z ≡ false
unfolding clash
clash-down a b c x y z h g k =
    or_mono (ltb 1 a || ltb 0 a && ltb 0 b) (ltb 1 c) (ltb 1 x || ltb 0 x && ltb 0 y) (ltb 1 z)
    (or_mono (ltb 1 a) (ltb 0 a && ltb 0 b) (ltb 1 x) (ltb 0 x && ltb 0 y) (low 1 a x h)
    (and_mono (ltb 0 a) (ltb 0 b) (ltb 0 x) (ltb 0 y) (low 0 a x h) (low 0 b y g)))
    (low 1 c z k)

any-down : (p q : ℕ → Bool) (n : ℕ) → ((k : ℕ) → p k ≡ false → q k ≡ false) → any_below p n ≡ false → any_below q n ≡ false
unfolding any_below
any-down p q zero h e = refl
any-down p q (suc n) h e = or_mono (p n) (any_below p n) (q n) (any_below q n) (h n) (any-down p q n h) e

pub blocks-down : (first : Bool) (row older newest : ℕ) → older ≤ newest → (bs : List (List ℕ))
    → Fewer (block_causes first row newest bs) (block_causes first row older bs)
unfolding block_causes
blocks-down first row older newest h [] = end
blocks-down first row older newest h (s ∷ bs) =
    fewer-append (causes-down first row older newest s h) (blocks-down first row older newest h bs)

-- what is tested over all blocks, at an older level
module _ (row older newest : ℕ) (bs : List (List ℕ)) (h : older ≤ newest) where
  pub clash-vanishes : (clash_cause row newest bs).met ≡ false → (clash_cause row older bs).met ≡ false
  unfolding clash_cause is_reset is_default resets_a_phy
  clash-vanishes =
      clash-down _ _ _ _ _ _
      (count_down _ _ (λ s. one_down _ _ (eqb (kind_of row s) 5) (known_up older newest (kind_of row s) h)) bs)
      (count_down _ _ (λ s. one_down _ _ (facts_of (kind_of row s) s).resets_phy (known_up older newest (kind_of row s) h)) bs)
      (count_down _ _ (λ s. one_down _ _ (facts_of (kind_of row s) s).is_default (known_up older newest (kind_of row s) h)) bs)

  mode-vanishes : (mode_cause row newest bs).met ≡ false → (mode_cause row older bs).met ≡ false
  unfolding mode_cause sets_mode is_power
  mode-vanishes = any-down _ _ 8 (λ k. low 1 _ _
      (count_down _ _
      (λ s. one-down-both _ _ (eqb (kind_of row s) 6) (bit k (facts_of (kind_of row s) s).mode) (known_up older newest (kind_of row s) h))
      bs))

pub older-accepts : OlderAccepts
unfolding leaf_causes whole_causes
older-accepts first row older newest bs h =
    fewer (leaf-numbered first row newest bs)
    (fewer-append (blocks-down first row older newest h bs)
    (and (clash-vanishes row older newest bs h) (and (mode-vanishes row older newest bs h) end)))
