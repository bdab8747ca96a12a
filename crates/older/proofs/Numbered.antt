-- Blocks by their numbers: what the flags of a row say, and a default's number. Assumes nothing.
use Prim.Native.Nat.{ℕ, zero, suc, ◌+◌, ◌-◌, ◌≤◌}
use native.Mathlib.Omega.{arith}
use native.Mathlib.Nat.{le_of_suc-le-suc, not-suc-le-zero}
use mathlib.Core.List.{List, [], ◌∷◌, ◌++◌, map}
use mathlib.Core.Path.{◌≡◌, refl, ap, sym, ◌∙◌}
use mathlib.Core.Bool.{Bool, true, false, ◌||◌, ◌&&◌, not}
use lib.Dec.{eqb}
use lib.ListN.{length, get_or, replicate}
use borrow.Author.Tests.{eqb-true}
use Rattle.rom.specs.Geometry.{none}
use Rattle.rom.specs.Bytes.{pick, one}
use Rattle.rom.proofs.Truth.{true-false, and-true, and-false}
use Rattle.format.specs.Block.{kind_of, is_known, facts_of, sequence, is_medium, is_listed, is_default}
use Rattle.format.proofs.Levels.{known_up}
use Rattle.leaf.specs.Leaf.{first_from}
use Rattle.walk.specs.Walk.{block_is, flags, flag_at, is_invalid, is_fixed_medium}
use Rattle.older.specs.Levels.{is_removed}

-- ## Flags

pub flag-none : (n k : ℕ) → flag_at (replicate n 0) k ≡ false
unfolding flag_at
flag-none zero k = refl
flag-none (suc n) zero = refl
flag-none (suc n) (suc k) = flag-none n k

flag-in : (p : List ℕ → Bool) (bs : List (List ℕ)) (n k : ℕ) → flag_at (map (λ s. one (p s)) bs ++ replicate n 0) k ≡ block_is p bs k
unfolding flag_at block_is
flag-in p [] n k = flag-none n k
flag-in p (s ∷ bs) n zero = go (p s)
  where
    go : (t : Bool) → eqb (one t) 1 ≡ t
    go true = refl
    go false = refl
flag-in p (s ∷ bs) n (suc k) = flag-in p bs n k

-- a row's flag at k is 1 exactly if block k is there and taken
pub flag-block : (p : List ℕ → Bool) (bs : List (List ℕ)) (k : ℕ) → flag_at (flags p bs) k ≡ block_is p bs k
unfolding flags
flag-block p bs k = flag-in p bs (256 - length bs) k

-- ## Blocks that are there

pub block-past : (p : List ℕ → Bool) (bs : List (List ℕ)) (k : ℕ) → length bs ≤ k → block_is p bs k ≡ false
unfolding block_is
block-past p [] k h = refl
block-past p (s ∷ bs) zero h = absurd (not-suc-le-zero h)
block-past p (s ∷ bs) (suc k) h = block-past p bs k (le_of_suc-le-suc h)

pub block_same : (p q r : List ℕ → Bool) → ((s : List ℕ) → r s ≡ false → p s ≡ q s) → (bs : List (List ℕ)) (k : ℕ) → block_is r bs k ≡ false
    → block_is p bs k ≡ block_is q bs k
unfolding block_is
block_same p q r h [] k e = refl
block_same p q r h (s ∷ bs) zero e = h s e
block_same p q r h (s ∷ bs) (suc k) e = block_same p q r h bs k e

pub block-fewer : (p q : List ℕ → Bool) → ((s : List ℕ) → q s ≡ false → p s ≡ false) → (bs : List (List ℕ)) (k : ℕ)
    → block_is q bs k ≡ false
    → block_is p bs k ≡ false
unfolding block_is
block-fewer p q h [] k e = refl
block-fewer p q h (s ∷ bs) zero e = h s e
block-fewer p q h (s ∷ bs) (suc k) e = block-fewer p q h bs k e

-- a block that p takes is the one of its number in the list
pub block_at : (p q : List ℕ → Bool) (bs : List (List ℕ)) (k : ℕ) → block_is p bs k ≡ true
    → (p (get_or bs k []) ≡ true) × (block_is q bs k ≡ q (get_or bs k []))
unfolding block_is
block_at p q [] k e = true-false (sym e)
block_at p q (s ∷ bs) zero e = (e, refl)
block_at p q (s ∷ bs) (suc k) e = block_at p q bs k e

-- ## Levels

-- an entry that is not removed is listed at both levels or at neither
pub listed-level : (row older newest : ℕ) → older ≤ newest → (s : List ℕ) → is_removed row older newest s ≡ false
    → is_listed row older s ≡ is_listed row newest s
unfolding is_listed
listed-level row older newest h s =
    go (is_known newest (kind_of row s)) (is_known older (kind_of row s)) (is_medium (kind_of row s))
    (known_up older newest (kind_of row s) h)
  where
    go : (k l x : Bool) → (l ≡ true → k ≡ true) → ((k && x) && not l) ≡ false → (l && x) ≡ (k && x)
    go k true x u e = rw (u refl)
    go true false true u e = true-false e
    go true false false u e = refl
    go false false x u e = refl

pub invalid-level : (row older newest : ℕ) → older ≤ newest → (s : List ℕ) → is_removed row older newest s ≡ false
    → is_invalid row older s ≡ is_invalid row newest s
unfolding is_invalid
invalid-level row older newest h s r = rw (listed-level row older newest h s r)

pub fixed-level : (connection row older newest : ℕ) → older ≤ newest → (s : List ℕ) → is_removed row older newest s ≡ false
    → is_fixed_medium connection row older s ≡ is_fixed_medium connection row newest s
unfolding is_fixed_medium
fixed-level connection row older newest h s r = rw (listed-level row older newest h s r)

-- the older level lists no block that the newest does not list
fixed-down : (connection row older newest : ℕ) → older ≤ newest → (s : List ℕ) → is_fixed_medium connection row newest s ≡ false
    → is_fixed_medium connection row older s ≡ false
unfolding is_fixed_medium is_listed
fixed-down connection row older newest h s =
    go (is_known newest (kind_of row s)) (is_known older (kind_of row s)) (is_medium (kind_of row s)) _
    (known_up older newest (kind_of row s) h)
  where
    go : (k l x y : Bool) → (l ≡ true → k ≡ true) → ((k && x) && y) ≡ false → ((l && x) && y) ≡ false
    go k true x y u e = rw (u refl) at e
    go k false x y u e = refl

pub fixed-fewer : (connection row older newest : ℕ) → older ≤ newest → (bs : List (List ℕ)) (k : ℕ)
    → flag_at (flags (is_fixed_medium connection row newest) bs) k ≡ false
    → flag_at (flags (is_fixed_medium connection row older) bs) k ≡ false
fixed-fewer connection row older newest h bs k e =
    flag-block _ bs k ∙ block-fewer _ _ (fixed-down connection row older newest h) bs k (sym (flag-block _ bs k) ∙ e)

-- a block that the older level lists is not removed
pub not-removed : (row older newest : ℕ) (bs : List (List ℕ)) (k : ℕ) → block_is (is_listed row older) bs k ≡ true
    → block_is (is_removed row older newest) bs k ≡ false
unfolding is_listed
not-removed row older newest bs k e =
    let t = block_at (is_listed row older) (is_removed row older newest) bs k e in
    let s = get_or bs k [] in
    let known : is_known older (kind_of row s) ≡ true = (and-true _ (is_medium (kind_of row s)) t.0).0 in
    t.1 ∙ rw known (and-false (is_listed row newest s))

-- so rows of what is alike at blocks that are not removed have the same flags there
pub flags-same : (row older newest : ℕ) (p q : List ℕ → Bool) → ((s : List ℕ) → is_removed row older newest s ≡ false → p s ≡ q s)
    → (bs : List (List ℕ)) (k : ℕ) → block_is (is_removed row older newest) bs k ≡ false
    → flag_at (flags p bs) k ≡ flag_at (flags q bs) k
flags-same row older newest p q level bs k e =
    flag-block p bs k ∙ block_same p q (is_removed row older newest) level bs k e ∙ sym (flag-block q bs k)

-- ## The default

-- a default's block is listed: types 5 and 6 have none
pub default-listed : (row level : ℕ) (s : List ℕ) → is_default row level s ≡ true → is_listed row level s ≡ true
unfolding is_default is_listed facts_of sequence pick
default-listed row level s e = go (eqb (kind_of row s) 5) refl (eqb (kind_of row s) 6) refl (is_known level (kind_of row s)) e
  where
    never : (n : ℕ) → (facts_of n s).is_default ≡ false → eqb (kind_of row s) n ≡ true → (facts_of (kind_of row s) s).is_default ≡ true
        → true ≡ false
    never n z f g = sym g ∙ ap (λ (kind : ℕ). (facts_of kind s).is_default) (eqb-true (kind_of row s) n f) ∙ z

    go : (t : Bool) → eqb (kind_of row s) 5 ≡ t → (u : Bool) → eqb (kind_of row s) 6 ≡ u → (k : Bool)
        → (k && (facts_of (kind_of row s) s).is_default) ≡ true
        → (k && not (t || u)) ≡ true
    go t f u h false g = g
    go false f false h true g = refl
    go true f u h true g = true-false (never 5 refl f g)
    go false f true h true g = true-false (never 6 refl h g)

-- the number that is found is that of a block that p takes, or none
pub data FoundFirst (p : List ℕ → Bool) (k : ℕ) (bs : List (List ℕ)) : ℕ → Type 0 where
  absent : FoundFirst p k bs none
  at : (j : ℕ) {n : ℕ} → n ≡ k + j → block_is p bs j ≡ true → FoundFirst p k bs n

pub found_first : (p : List ℕ → Bool) (k : ℕ) (bs : List (List ℕ)) → FoundFirst p k bs (first_from p k bs)
unfolding first_from pick block_is
found_first p k [] = absent
found_first p k (s ∷ bs) = go (p s) refl (found_first p (k + 1) bs)
  where
    later : {n : ℕ} → FoundFirst p (k + 1) bs n → FoundFirst p k (s ∷ bs) n
    later absent = absent
    later (at j {n} q b) = let q' : n ≡ k + suc j = omega arith in at (suc j) q' b

    go : (t : Bool) → p s ≡ t → FoundFirst p (k + 1) bs (first_from p (k + 1) bs) → FoundFirst p k (s ∷ bs)
        (pick t k (first_from p (k + 1) bs))
    go true e f = let q : k ≡ k + 0 = omega arith in at 0 q e
    go false e f = later f

pub default-kept : (row older newest : ℕ) (bs : List (List ℕ)) →
    let d = first_from (is_default row newest) 0 bs in
    pick (is_known older (kind_of row (get_or bs d []))) d none ≡ pick (block_is (is_removed row older newest) bs d) none d
unfolding pick
default-kept row older newest bs = go (first_from (is_default row newest) 0 bs) (found_first (is_default row newest) 0 bs)
  where
    same : (t : Bool) → ◌≡◌ {A = ℕ} (pick t none none) none
    same true = refl
    same false = refl

    go : (d : ℕ) → FoundFirst (is_default row newest) 0 bs d
        → pick (is_known older (kind_of row (get_or bs d []))) d none ≡ pick (block_is (is_removed row older newest) bs d) none d
    go d absent = same (is_known older (kind_of row (get_or bs none []))) ∙ sym (same (block_is (is_removed row older newest) bs none))
    go d (at j q b) =
        let e : d ≡ j = omega arith in
        let t = block_at (is_default row newest) (is_removed row older newest) bs j b in
        rw (e, t.1, default-listed row newest (get_or bs j []) t.0) (turned (is_known older (kind_of row (get_or bs j []))))
      where
        turned : (t : Bool) → pick t j none ≡ pick (not t) none j
        turned true = refl
        turned false = refl
