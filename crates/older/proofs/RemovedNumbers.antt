-- The numbers of the removed entries are those of the removed blocks: an entry's number is its block's. Assumes nothing.
use Prim.Native.Nat.{ℕ, zero, suc, ◌+◌, ◌<◌}
use native.Mathlib.Omega.{arith}
use native.Mathlib.Nat.{zero-add}
use mathlib.Core.List.{List, [], ◌∷◌, ◌++◌, map, reverse, reverse-cons}
use mathlib.Core.Path.{◌≡◌, refl, ap, sym, ◌∙◌}
use mathlib.Core.Bool.{Bool, true, false, ◌&&◌, ◌||◌, not}
use lib.Dec.{eqb}
use lib.ListN.{get_or}
use borrow.Author.Tests.{eqb-true, eq-eqb, ne_eqb}
use Rattle.rom.specs.Bytes.{pick, is_in}
use Rattle.rom.proofs.Truth.{and-false}
use Rattle.format.specs.Chips.{newest_level}
use Rattle.format.specs.Block.{size_of, kind_of, is_known, is_listed}
use Rattle.image.specs.Arguments.{row_for, start_for, at_level}
use Rattle.leaf.specs.Leaf.{PlacedBlock, placed}
use Rattle.reader.specs.Reading.{blocks_for}
use Rattle.walk.specs.Walk.{block_is}
use Rattle.older.specs.Levels.{is_removed}
use Rattle.older.specs.Written.{as_entry, TableEntry, table_in, removed, numbers_of}
use Rattle.older.specs.Claims.{numbers_from, entry_numbers, RemovedNumbers}
use Rattle.older.proofs.OlderReadings.{table_is}
use Rattle.older.proofs.Order.{table-numbers}

-- ## Tests

and-swap : (x y : Bool) → (x && y) ≡ (y && x)
and-swap true true = refl
and-swap true false = refl
and-swap false true = refl
and-swap false false = refl

-- ## Members of lists of numbers

in-append : (k : ℕ) (xs : List ℕ) (y : ℕ) → is_in k (xs ++ y ∷ []) ≡ is_in k (y ∷ xs)
unfolding is_in
in-append k [] y = refl
in-append k (x ∷ xs) y = rw (in-append k xs y) (go (eqb x k) (eqb y k) (is_in k xs))
  where
    go : (a b c : Bool) → (a || (b || c)) ≡ (b || (a || c))
    go true true c = refl
    go true false c = refl
    go false true c = refl
    go false false c = refl

in-reverse : (k : ℕ) (xs : List ℕ) → is_in k (reverse xs) ≡ is_in k xs
unfolding is_in
in-reverse k [] = refl
in-reverse k (x ∷ xs) = rw (reverse-cons x xs) (in-append k (reverse xs) x ∙ rw (in-reverse k xs))

-- of numbers beside entries, those whose entry p takes
in-numbers : (p : TableEntry → Bool) (f : ℕ → TableEntry) (ks : List ℕ) (k : ℕ)
    → is_in k (numbers_of p (map f ks) ks) ≡ (p (f k) && is_in k ks)
unfolding is_in numbers_of pick
in-numbers p f [] k = sym (and-false (p (f k)))
in-numbers p f (j ∷ ks) k = go (p (f j)) refl (eqb j k) refl (in-numbers p f ks k)
  where
    go : (t : Bool) → p (f j) ≡ t → (u : Bool) → eqb j k ≡ u → is_in k (numbers_of p (map f ks) ks) ≡ (p (f k) && is_in k ks)
        → is_in k (pick t (j ∷ numbers_of p (map f ks) ks) (numbers_of p (map f ks) ks)) ≡ (p (f k) && (u || is_in k ks))
    go true e true g ih = let h : p (f k) ≡ true = rw (eqb-true j k g) at e in rw (g, h)
    go true e false g ih = rw g ih
    go false e true g ih = let h : p (f k) ≡ false = rw (eqb-true j k g) at e in rw h (rw h at ih)
    go false e false g ih = ih

-- ## Numbers of blocks

not-below : (p : List ℕ → Bool) (k : ℕ) (bs : List (List ℕ)) (i : ℕ) → i < k → is_in i (numbers_from p k bs) ≡ false
unfolding is_in numbers_from pick
not-below p k [] i h = refl
not-below p k (s ∷ bs) i h = go (p s) (not-below p (k + 1) bs i (omega arith))
  where
    go : (t : Bool) → is_in i (numbers_from p (k + 1) bs) ≡ false
        → is_in i (pick t (k ∷ numbers_from p (k + 1) bs) (numbers_from p (k + 1) bs)) ≡ false
    go true ih = rw (ne_eqb k i (λ z. omega arith)) ih
    go false ih = ih

in-from : (p : List ℕ → Bool) (k : ℕ) (bs : List (List ℕ)) (j : ℕ) → is_in (k + j) (numbers_from p k bs) ≡ block_is p bs j
unfolding is_in numbers_from block_is pick
in-from p k [] j = refl
in-from p k (s ∷ bs) zero = go (p s) (not-below p (k + 1) bs (k + 0) (omega arith))
  where
    go : (t : Bool) → is_in (k + 0) (numbers_from p (k + 1) bs) ≡ false
        → is_in (k + 0) (pick t (k ∷ numbers_from p (k + 1) bs) (numbers_from p (k + 1) bs)) ≡ t
    go true h = rw (eq-eqb k (k + 0) (omega arith))
    go false h = h
in-from p k (s ∷ bs) (suc j) = go (p s) (ap (λ (n : ℕ). is_in n (numbers_from p (k + 1) bs)) later ∙ in-from p (k + 1) bs j)
  where
    later : k + suc j ≡ k + 1 + j
    later = omega arith

    go : (t : Bool) → is_in (k + suc j) (numbers_from p (k + 1) bs) ≡ block_is p bs j
        → is_in (k + suc j) (pick t (k ∷ numbers_from p (k + 1) bs) (numbers_from p (k + 1) bs)) ≡ block_is p bs j
    go true ih = rw (ne_eqb k (k + suc j) (λ z. omega arith)) ih
    go false ih = ih

placed-rest : (row at : ℕ) (bs : List (List ℕ)) (k : ℕ) (d : PlacedBlock) → d.rest ≡ [] → (get_or (placed row at bs) k d).rest
    ≡ get_or bs k []
unfolding placed
placed-rest row at [] k d e = e
placed-rest row at (s ∷ bs) zero d e = refl
placed-rest row at (s ∷ bs) (suc k) d e = placed-rest row (at + size_of row s) bs k d e

removed-listed : (row older newest : ℕ) (bs : List (List ℕ)) (k : ℕ)
    → block_is (is_removed row older newest) bs k
    ≡ (not (is_known older (kind_of row (get_or bs k []))) && block_is (is_listed row newest) bs k)
unfolding block_is
removed-listed row older newest [] k = sym (and-false (not (is_known older (kind_of row []))))
removed-listed row older newest (s ∷ bs) zero = and-swap (is_listed row newest s) (not (is_known older (kind_of row s)))
removed-listed row older newest (s ∷ bs) (suc k) = removed-listed row older newest bs k

-- ## The table's entries

map-twice : (f : PlacedBlock → TableEntry) (g : ℕ → PlacedBlock) (ks : List ℕ) → map f (map g ks) ≡ map (λ k. f (g k)) ks
map-twice f g [] = refl
map-twice f g (k ∷ ks) = ap (λ (es : List TableEntry). f (g k) ∷ es) (map-twice f g ks)

pub removed-numbers : RemovedNumbers
unfolding entry_numbers
removed-numbers image a older e n room k =
    let new = at_level a newest_level in
    let row = row_for a in
    let bs = blocks_for image a in
    let whole = placed row (start_for image a) bs in
    let d : PlacedBlock = record { start = 0; rest = [] } in
    let ks = entry_numbers image new in
    let table : table_in image new n ≡ map (λ j. as_entry row (get_or whole j d)) ks =
    table_is image new e n room ∙ ap (map (as_entry row)) (table-numbers image new) ∙ map-twice (as_entry row) (λ j. get_or whole j d) ks in
    let member : is_in k ks ≡ block_is (is_listed row newest_level) bs k =
    in-reverse k (numbers_from (is_listed row newest_level) 0 bs)
    ∙ ap (λ (j : ℕ). is_in j (numbers_from (is_listed row newest_level) 0 bs)) (sym (zero-add k))
    ∙ in-from (is_listed row newest_level) 0 bs k in
    let kind : kind_of row (get_or whole k d).rest ≡ kind_of row (get_or bs k []) =
    ap (kind_of row) (placed-rest row (start_for image a) bs k d refl) in
    removed-listed row older newest_level bs k
    ∙ sym (ap (λ (es : List TableEntry). is_in k (numbers_of (removed older) es ks)) table
    ∙ in-numbers (removed older) (λ j. as_entry row (get_or whole j d)) ks k
    ∙ rw (kind, member))
