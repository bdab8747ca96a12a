-- What the rows say of the table: the last block that is up is the first in table order. Assumes nothing.
use Prim.Native.Nat.{ℕ, zero, suc, ◌+◌, ◌-◌, ◌≤◌}
use native.Mathlib.Omega.{arith}
use native.Mathlib.Nat.{add-zero, zero-add}
use mathlib.Core.List.{List, [], ◌∷◌, ◌++◌, map, map-append, append-nil, reverse, reverse-cons}
use mathlib.Core.Path.{◌≡◌, refl, ap, sym, ◌∙◌}
use mathlib.Core.Bool.{Bool, true, false, ◌&&◌, not}
use lib.ListN.{length, get_or, replicate, length-append, length-map, length-replicate, replicate-append-replicate}
use Rattle.rom.specs.Bytes.{pick, one, Bytes, keep}
use Rattle.rom.proofs.Truth.{and-false}
use Rattle.format.specs.Block.{size_of, is_listed}
use Rattle.image.specs.declared.Arguments.{Arguments}
use Rattle.image.specs.Image.{up_to_leaves_end}
use Rattle.image.specs.Arguments.{row_for, start_for, count_for}
use Rattle.leaf.specs.Leaf.{PlacedBlock, placed, table, table_of}
use Rattle.leaf.proofs.Cuts.{cut-length}
use Rattle.reader.specs.Reading.{blocks_for, accepted_answer}
use Rattle.rom.specs.Geometry.{none}
use Rattle.walk.specs.Walk.{row_length, no_flags, flags, block_is, is_invalid, is_fixed_medium, is_up, rows_of, loaded_walk}
use Rattle.walk.specs.Walk.{last_below, is_candidate}
use Rattle.walk.specs.Walk.{first_up, fixed_block}
use Rattle.walk.proofs.Loads.{few-blocks}
use Rattle.older.specs.Claims.{FlagForEach, RowsSay, ZerosElsewhere, numbers_from, entry_numbers, first_of, TableNumbers, FirstInOrder}
use Rattle.older.specs.Claims.{FixedInOrder}
use Rattle.older.proofs.Numbered.{flag-block}
use Rattle.older.proofs.Simulation.{last-same}

-- ## Rows

pub rows-say : RowsSay
unfolding loaded_walk rows_of
rows-say image a k =
    (flag-block _ (blocks_for image a) k, flag-block _ (blocks_for image a) k, flag-block _ (blocks_for image a) k)

flags-length : (p : List ℕ → Bool) (bs : List (List ℕ)) → length bs ≤ 256 → length (flags p bs) ≡ row_length
unfolding flags
flags-length p bs h =
    omega (
      arith,
      length-append (map (λ s. one (p s)) bs) (replicate (256 - length bs) 0),
      length-map bs (λ s. one (p s)),
      length-replicate {A = ℕ} (256 - length bs) 0,
    )

module _ (image : List ℕ) (a : Arguments) (bytes : Bytes image) where
  few : count_for image a ≤ 255
  few = omega (arith, few-blocks image a bytes)

  short : length (blocks_for image a) ≤ 256
  short = omega (arith, few, cut-length (row_for a) (count_for image a) (up_to_leaves_end a.layout image (start_for image a)))

pub flag-for-each : FlagForEach
unfolding loaded_walk rows_of accepted_answer
flag-for-each image a e =
    let fits = short image a e in (
      few image a e,
      flags-length _ (blocks_for image a) fits,
      flags-length _ (blocks_for image a) fits,
      flags-length _ (blocks_for image a) fits,
    )

no_flag : (p : List ℕ → Bool) → ((s : List ℕ) → p s ≡ false) → (bs : List (List ℕ)) → map (λ s. one (p s)) bs ≡ replicate (length bs) 0
no_flag p h [] = refl
no_flag p h (s ∷ bs) = rw (h s, no_flag p h bs)

pub zeros-elsewhere : ZerosElsewhere
unfolding loaded_walk rows_of flags no_flags is_fixed_medium
zeros-elsewhere image a e f =
    let bs = blocks_for image a in
    let all : length bs + (256 - length bs) ≡ 256 = omega (arith, short image a e) in
    ap (λ (r : List ℕ). r ++ replicate (256 - length bs) 0)
    (no_flag (is_fixed_medium (accepted_answer image a).connection (row_for a) a.level)
    (λ s. rw f (and-false (is_listed (row_for a) a.level s))) bs)
    ∙ replicate-append-replicate (length bs) (256 - length bs) 0
    ∙ ap (λ (n : ℕ). replicate n 0) all

-- ## Numbers

-- the blocks that p takes, one by one from the first
numbers-cons : (p : List ℕ → Bool) (k : ℕ) (s : List ℕ) (bs : List (List ℕ))
    → reverse (numbers_from p k (s ∷ bs)) ≡ reverse (numbers_from p (k + 1) bs) ++ pick (p s) (k ∷ []) []
unfolding numbers_from pick
numbers-cons p k s bs = go (p s)
  where
    go : (t : Bool)
        → reverse (pick t (k ∷ numbers_from p (k + 1) bs) (numbers_from p (k + 1) bs)) ≡ reverse (numbers_from p (k + 1) bs)
        ++ pick t (k ∷ []) []
    go true = reverse-cons k (numbers_from p (k + 1) bs)
    go false = sym (append-nil (reverse (numbers_from p (k + 1) bs)))

-- the first that q takes, else d
first_or : (ℕ → Bool) → ℕ → List ℕ → ℕ
first_or q d [] = d
first_or q d (k ∷ ks) = pick (q k) k (first_or q d ks)

or-append : (q : ℕ → Bool) (d : ℕ) (xs bs : List ℕ) → first_or q d (xs ++ bs) ≡ first_or q (first_or q d bs) xs
unfolding first_or
or-append q d [] bs = refl
or-append q d (x ∷ xs) bs = rw (or-append q d xs bs)

first_or_none : (q : ℕ → Bool) (ks : List ℕ) → first_or q none ks ≡ first_of q ks
unfolding first_or first_of
first_or_none q [] = refl
first_or_none q (k ∷ ks) = rw (first_or_none q ks)

module _ (p : List ℕ → Bool) (q : ℕ → Bool) (whole : List (List ℕ)) where
  taken : ℕ → Bool
  taken j = block_is p whole j && q j

  one_number : (k d : ℕ) (t : Bool) → first_or q d (pick t (k ∷ []) []) ≡ pick (t && q k) k d
  unfolding first_or pick
  one_number k d true = refl
  one_number k d false = refl

  last-first : (k : ℕ) (bs : List (List ℕ)) → ((j : ℕ) → block_is p whole (k + j) ≡ block_is p bs j)
      → first_or q (last_below taken k) (reverse (numbers_from p k bs)) ≡ last_below taken (k + length bs)
  unfolding numbers_from first_or last_below taken block_is
  last-first k [] h = rw add-zero
  last-first k (s ∷ bs) h =
      let here : block_is p whole k ≡ p s = ap (block_is p whole) (sym (add-zero k)) ∙ h 0 in
      let next : k + 1 ≡ suc k = omega arith in
      let end : (k + 1) + length bs ≡ k + suc (length bs) = omega arith in
      ap (first_or q (last_below taken k)) (numbers-cons p k s bs)
      ∙ or-append q (last_below taken k) (reverse (numbers_from p (k + 1) bs)) (pick (p s) (k ∷ []) [])
      ∙ ap (λ (d : ℕ). first_or q d (reverse (numbers_from p (k + 1) bs)))
      (one_number k (last_below taken k) (p s) ∙ ap (λ (t : Bool). pick (t && q k) k (last_below taken k)) (sym here)
      ∙ ap (last_below taken) (sym next))
      ∙ last-first (k + 1) bs (λ j. ap (block_is p whole) (later j) ∙ h (suc j))
      ∙ ap (last_below taken) end
    where
      later : (j : ℕ) → k + 1 + j ≡ k + suc j
      later j = omega arith

and_assoc : (x y z : Bool) → ((x && y) && z) ≡ (x && (y && z))
and_assoc true y z = refl
and_assoc false y z = refl

-- the last block below the count is the first in table order
table-order : (p : List ℕ → Bool) (q : ℕ → Bool) (image : List ℕ) (a : Arguments)
    → last_below (taken p q (blocks_for image a)) (count_for image a) ≡ first_of q (reverse (numbers_from p 0 (blocks_for image a)))
unfolding taken last_below
table-order p q image a =
    let bs = blocks_for image a in
    let all : count_for image a ≡ 0 + length bs =
    omega (arith, cut-length (row_for a) (count_for image a) (up_to_leaves_end a.layout image (start_for image a))) in
    ap (last_below (taken p q bs)) all
    ∙ sym (last-first p q bs 0 bs (λ j. ap (block_is p bs) (zero-add j)))
    ∙ first_or_none q (reverse (numbers_from p 0 bs))

pub first-in-order : FirstInOrder
unfolding loaded_walk rows_of accepted_answer first_up is_candidate entry_numbers taken last_below
first-in-order image a settled report =
    let bs = blocks_for image a in
    let p = is_listed (row_for a) a.level in
    let i = is_invalid (row_for a) a.level in
    let q : ℕ → Bool = λ k. not (settled && block_is i bs k) && is_up report k in
    last-same _ (taken p q bs)
    (λ k. rw (flag-block p bs k, flag-block i bs k) (and_assoc (block_is p bs k) (not (settled && block_is i bs k)) (is_up report k)))
    (count_for image a)
    ∙ table-order p q image a

and-twice : (x y : Bool) → (x && y) ≡ (x && (x && y))
and-twice true y = refl
and-twice false y = refl

-- a block of the fixed medium is listed
pub fixed-within : (connection row level : ℕ) (bs : List (List ℕ)) (k : ℕ)
    → block_is (is_fixed_medium connection row level) bs k
    ≡ (block_is (is_listed row level) bs k && block_is (is_fixed_medium connection row level) bs k)
unfolding block_is is_fixed_medium
fixed-within connection row level [] k = refl
fixed-within connection row level (s ∷ bs) zero = and-twice (is_listed row level s) _
fixed-within connection row level (s ∷ bs) (suc k) = fixed-within connection row level bs k

pub fixed-in-order : FixedInOrder
unfolding loaded_walk rows_of accepted_answer fixed_block entry_numbers taken last_below
fixed-in-order image a =
    let bs = blocks_for image a in
    let p = is_listed (row_for a) a.level in
    let m = is_fixed_medium (accepted_answer image a).connection (row_for a) a.level in
    let q : ℕ → Bool = λ k. block_is m bs k in
    last-same _ (taken p q bs) (λ k. flag-block m bs k ∙ fixed-within (accepted_answer image a).connection (row_for a) a.level bs k)
    (count_for image a)
    ∙ table-order p q image a

-- ## The table's entries

map-reverse : (f : ℕ → PlacedBlock) (ks : List ℕ) → map f (reverse ks) ≡ reverse (map f ks)
map-reverse f [] = refl
map-reverse f (k ∷ ks) =
    ap (map f) (reverse-cons k ks) ∙ map-append f (reverse ks) (k ∷ []) ∙ ap (λ (t : List PlacedBlock). t ++ f k ∷ []) (map-reverse f ks)
    ∙ sym (reverse-cons (f k) (map f ks))

keep-numbers : (p : List ℕ → Bool) (row k at : ℕ) (bs : List (List ℕ)) (whole : List PlacedBlock) (d : PlacedBlock)
    → ((j : ℕ) → get_or whole (k + j) d ≡ get_or (placed row at bs) j d)
    → keep (λ b. p b.rest) (placed row at bs) ≡ map (λ n. get_or whole n d) (numbers_from p k bs)
unfolding keep placed numbers_from pick
keep-numbers p row k at [] whole d h = refl
keep-numbers p row k at (s ∷ bs) whole d h =
    go (p s) (ap (λ (n : ℕ). get_or whole n d) (sym (add-zero k)) ∙ h 0)
    (keep-numbers p row (k + 1) (at + size_of row s) bs whole d (λ j. ap (λ (n : ℕ). get_or whole n d) (later j) ∙ h (suc j)))
  where
    later : (j : ℕ) → k + 1 + j ≡ k + suc j
    later j = omega arith

    go : (t : Bool) → get_or whole k d ≡ record { start = at; rest = s }
        → keep (λ b. p b.rest) (placed row (at + size_of row s) bs) ≡ map (λ n. get_or whole n d) (numbers_from p (k + 1) bs)
        → pick t (record { start = at; rest = s } ∷ keep (λ b. p b.rest) (placed row (at + size_of row s) bs))
        (keep (λ b. p b.rest) (placed row (at + size_of row s) bs))
        ≡ map (λ n. get_or whole n d) (pick t (k ∷ numbers_from p (k + 1) bs) (numbers_from p (k + 1) bs))
    go true e ih = rw (e, ih)
    go false e ih = ih

pub table-numbers : TableNumbers
unfolding table_of table entry_numbers
table-numbers image a =
    let bs = blocks_for image a in
    let whole = placed (row_for a) (start_for image a) bs in
    let p = is_listed (row_for a) a.level in
    ap reverse (keep-numbers p (row_for a) 0 (start_for image a) bs whole _ (λ j. ap (λ (n : ℕ). get_or whole n _) (zero-add j)))
    ∙ sym (map-reverse _ (numbers_from p 0 bs))
