-- An entry's part: how it stands in a table that grows, and where it lies. Assumes nothing.
use Prim.Native.Nat.{ℕ, zero, suc, ◌+◌, ◌-◌, ◌≤◌, ◌<◌, zero-le}
use native.Mathlib.Nat.{le_of_suc-le-suc, not-suc-le-zero}
use mathlib.Core.List.{List, [], ◌∷◌, ◌++◌, map, map-append}
use mathlib.Core.Path.{◌≡◌, refl, ap, sym}
use lib.ListN.{length, take, drop, get_or, length-map, get_or-append, get_or-eq_default}
use lib.Seq.{get_or_at}
use Rattle.rom.specs.Refusal.{first_met}
use Rattle.format.specs.Block.{size_of, the_later_version}
use Rattle.leaf.specs.Leaf.{cut, block_causes, PlacedBlock, table_of}
use Rattle.leaf.proofs.Tables.{Every, every-at, Lies, every-lies}
use Rattle.reader.specs.Table.{no_part, part_at, entry_part}

-- ## In a table

-- an entry that is there does not change as entries come behind it
pub part-front : (row : ℕ) (t u : List PlacedBlock) (e : ℕ) → e < length t → entry_part row (t ++ u) e ≡ entry_part row t e
unfolding entry_part
part-front row t u e h = rw map-append (get_or-append (map (part_at row) t) (map (part_at row) u) no_part e (rw length-map h))

pub part-last : (row : ℕ) (t : List PlacedBlock) (p : PlacedBlock) (e : ℕ) → length t ≡ e → entry_part row (t ++ p ∷ []) e ≡ part_at row p
unfolding entry_part
part-last row t p e h = rw map-append (get_or_at (map (part_at row) t) (part_at row p) [] no_part e (rw length-map h))

pub part_none : (row : ℕ) (t : List PlacedBlock) (e : ℕ) → length t ≤ e → entry_part row t e ≡ no_part
unfolding entry_part
part_none row t e h = get_or-eq_default (map (part_at row) t) no_part (rw length-map h)

pub part-at : (row : ℕ) (t : List PlacedBlock) (e : ℕ) (d : PlacedBlock) → e < length t → entry_part row t e ≡ part_at row (get_or t e d)
unfolding entry_part
part-at row [] e d h = absurd (not-suc-le-zero h)
part-at row (p ∷ t) zero d h = refl
part-at row (p ∷ t) (suc e) d h = part-at row t e d (le_of_suc-le-suc h)

-- ## Where it lies

-- an entry's part ends where the bytes do, or before
pub entry-inside : (row level count at : ℕ) (s : List ℕ) (e : ℕ) → first_met (block_causes the_later_version row level (cut row count s))
    ≡ 0
    → (entry_part row (table_of row level count at s) e).start + (entry_part row (table_of row level count at s) e).length ≤ at + length s
unfolding entry_part
entry-inside row level count at s e h = go (table_of row level count at s) e (every-lies row level count at s h)
  where
    go : (t : List PlacedBlock) (e : ℕ) → Every (Lies row at s) t → (entry_part row t e).start + (entry_part row t e).length ≤ at + length s
    go [] e f = zero-le
    go (p ∷ t) zero f = f.0.within
    go (p ∷ t) (suc e) f = go t e f.1

-- starts where they do, or later
pub entry-after : (row level count at : ℕ) (s : List ℕ) (e : ℕ) → first_met (block_causes the_later_version row level (cut row count s)) ≡ 0
    → e < length (table_of row level count at s)
    → at ≤ (entry_part row (table_of row level count at s) e).start
entry-after row level count at s e h l =
    let d : PlacedBlock = record { start = 0; rest = [] } in
    rw (part-at row (table_of row level count at s) e d l)
    (every-at (Lies row at s) (table_of row level count at s) e d l (every-lies row level count at s h)).after

-- and holds its block's bytes
pub entry-bytes : (row level count at : ℕ) (s : List ℕ) (e : ℕ) (d : PlacedBlock)
    → first_met (block_causes the_later_version row level (cut row count s)) ≡ 0
    → e < length (table_of row level count at s)
    → take (entry_part row (table_of row level count at s) e).length
    (drop ((entry_part row (table_of row level count at s) e).start - at) s)
    ≡ take (size_of row (get_or (table_of row level count at s) e d).rest) (get_or (table_of row level count at s) e d).rest
entry-bytes row level count at s e d h l =
    let b = (every-at (Lies row at s) (table_of row level count at s) e d l (every-lies row level count at s h)).bytes in
    rw (part-at row (table_of row level count at s) e d l)
    (ap (take (size_of row (get_or (table_of row level count at s) e d).rest)) (sym b))
