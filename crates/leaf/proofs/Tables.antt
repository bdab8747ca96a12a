-- The media table grows at its end as blocks are added in front, since it lists them from the last to the first.
-- Assumes nothing.
use Prim.Native.Nat.{ℕ, zero, suc, ◌+◌, ◌-◌, ◌≤◌, ◌<◌, zero-le}
use native.Mathlib.Omega.{arith}
use native.Mathlib.Nat.{le_refl, le_of_suc-le-suc, not-suc-le-zero}
use mathlib.Core.List.{List, [], ◌∷◌, ◌++◌, append-nil, reverse, reverse-cons}
use mathlib.Core.Path.{◌≡◌, refl, ap, sym, ◌∙◌}
use mathlib.Core.Bool.{Bool, true, false}
use lib.ListN.{length, drop, get_or, length-append, length-drop}
use lib.Seq.{drop-drop}
use Rattle.rom.specs.Bytes.{pick, one, keep}
use Rattle.rom.specs.Refusal.{first_met}
use Rattle.block.specs.Answer.{Verdict}
use Rattle.format.specs.Block.{size_of, is_listed, the_later_version}
use Rattle.block.specs.Answer.{number_of, listed_in}
use Rattle.block.proofs.Seen.{SeenAs, seen-listed, fits}
use Rattle.leaf.specs.Leaf.{cut, count_of, block_causes, PlacedBlock, placed, table, table_of}
use Rattle.leaf.proofs.Cuts.{first-accepted}

pub few-one : (t : Bool) → one t ≤ 1
few-one true = le_refl _
few-one false = zero-le

-- ## The entries of one block

unfoldable pub listed_at : ℕ → ℕ → PlacedBlock → List PlacedBlock
listed_at row level p = pick (is_listed row level p.rest) (p ∷ []) []

entry_length : (row level : ℕ) (p : PlacedBlock) → length (listed_at row level p) ≡ one (is_listed row level p.rest)
unfolding listed_at pick
entry_length row level p = go (is_listed row level p.rest)
  where
    go : (t : Bool) → length (pick t (p ∷ []) []) ≡ one t
    go true = refl
    go false = refl

-- ## One block more

no_blocks : (row level : ℕ) → table row level [] ≡ []
unfolding table keep
no_blocks row level = refl

pub table-cons : (row level : ℕ) (p : PlacedBlock) (ps : List PlacedBlock) → table row level (p ∷ ps)
    ≡ table row level ps ++ listed_at row level p
unfolding table keep listed_at pick
table-cons row level p ps = go (is_listed row level p.rest)
  where
    go : (t : Bool) → reverse (pick t (p ∷ keep (λ b. is_listed row level b.rest) ps) (keep (λ b. is_listed row level b.rest) ps))
        ≡ reverse (keep (λ b. is_listed row level b.rest) ps) ++ pick t (p ∷ []) []
    go true = reverse-cons p (keep (λ b. is_listed row level b.rest) ps)
    go false = sym (append-nil _)

table-length : (row level : ℕ) (p : PlacedBlock) (ps : List PlacedBlock)
    → length (table row level (p ∷ ps)) ≡ length (table row level ps) + one (is_listed row level p.rest)
table-length row level p ps =
    ap length (table-cons row level p ps) ∙ length-append (table row level ps) (listed_at row level p)
    ∙ ap (λ (n : ℕ). length (table row level ps) + n) (entry_length row level p)

pub table_more : {row level : ℕ} {b : Verdict} (p : PlacedBlock) (ps : List PlacedBlock) → SeenAs row level p.rest b → number_of b ≡ 0
    → length (table row level (p ∷ ps)) ≡ length (table row level ps) + listed_in b
table_more {row} {level} p ps v z = table-length row level p ps ∙ ap (λ (n : ℕ). length (table row level ps) + n) (seen-listed v z)

-- ## The table's length

table-placed-length : (row level at : ℕ) (bs : List (List ℕ)) → length (table row level (placed row at bs)) ≡ count_of
    (is_listed row level) bs
unfolding placed count_of
table-placed-length row level at [] = rw no_blocks
table-placed-length row level at (s ∷ bs) =
    omega (
      arith,
      table-length row level (record { start = at; rest = s }) (placed row (at + size_of row s) bs),
      table-placed-length row level (at + size_of row s) bs,
    )

pub listed-length : (row level count at : ℕ) (s : List ℕ)
    → length (table_of row level count at s) ≡ count_of (is_listed row level) (cut row count s)
unfolding table_of
listed-length row level count at s = table-placed-length row level at (cut row count s)

-- ## Where the entries of accepted blocks lie

abbrev pub Every : (PlacedBlock → Type 0) → List PlacedBlock → Type 0
Every P [] = Unit
Every P (p ∷ t) = P p × Every P t

every_append : (P : PlacedBlock → Type 0) (t u : List PlacedBlock) → Every P t → Every P u → Every P (t ++ u)
every_append P [] u f g = g
every_append P (p ∷ t) u f g = (f.0, every_append P t u f.1 g)

every_map : (P Q : PlacedBlock → Type 0) → ((p : PlacedBlock) → P p → Q p) → (t : List PlacedBlock) → Every P t → Every Q t
every_map P Q h [] f = tt
every_map P Q h (p ∷ t) f = (h p f.0, every_map P Q h t f.1)

every-entry : (P : PlacedBlock → Type 0) (row level : ℕ) (p : PlacedBlock) → P p → Every P (listed_at row level p)
unfolding listed_at pick
every-entry P row level p h = go (is_listed row level p.rest)
  where
    go : (t : Bool) → Every P (pick t (p ∷ []) [])
    go true = (h, tt)
    go false = tt

pub every-at : (P : PlacedBlock → Type 0) (t : List PlacedBlock) (e : ℕ) (d : PlacedBlock) → e < length t → Every P t → P (get_or t e d)
every-at P [] e d h f = absurd (not-suc-le-zero h)
every-at P (p ∷ t) zero d h f = f.0
every-at P (p ∷ t) (suc e) d h f = every-at P t e d (le_of_suc-le-suc h) f.1

-- a block that lies whole in the bytes s, of which the first is byte `at` of the image
pub record Lies (row at : ℕ) (s : List ℕ) (p : PlacedBlock) : Type 0 where
  pub after : at ≤ p.start
  pub bytes : p.rest ≡ drop (p.start - at) s
  pub within : p.start + size_of row p.rest ≤ at + length s

lies-later : (row at n : ℕ) (s : List ℕ) → n ≤ length s → (p : PlacedBlock) → Lies row (at + n) (drop n s) p → Lies row at s p
lies-later row at n s h p l =
    let e : n + (p.start - (at + n)) ≡ p.start - at = omega (arith, l.after) in
    record {
      after = omega (arith, l.after);
      bytes = l.bytes ∙ drop-drop (p.start - (at + n)) n s ∙ ap (λ (k : ℕ). drop k s) e;
      within = omega (arith, l.within, length-drop n s);
    }

pub every-lies : (row level count at : ℕ) (s : List ℕ) → first_met (block_causes the_later_version row level (cut row count s)) ≡ 0
    → Every (Lies row at s) (table_of row level count at s)
unfolding table_of cut placed
every-lies row level zero at s h = rw no_blocks tt
every-lies row level (suc count) at s h =
    let n = size_of row s in
    let p : PlacedBlock = record { start = at; rest = s } in
    let later = table_of row level count (at + n) (drop n s) in
    let a = first-accepted row level s (cut row count (drop n s)) h in
    let f = fits row level s a.0 in
    let z : at - at ≡ 0 = omega arith in
    let here : Lies row at s p = record { after = le_refl _; bytes = rw z; within = omega arith } in
    rw table-cons
    (every_append (Lies row at s) later (listed_at row level p)
    (every_map _ _ (lies-later row at n s f) later (every-lies row level count (at + n) (drop n s) a.1))
    (every-entry (Lies row at s) row level p here))
