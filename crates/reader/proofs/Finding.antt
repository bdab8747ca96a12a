-- The table of the blocks that are left has the wanted entry as the whole table has it, which is what `find` keeps.
-- Assumes nothing.
use Prim.Native.Nat.{ℕ, ◌+◌, ◌-◌, ◌≤◌, ◌<◌}
use native.Mathlib.Omega.{arith}
use mathlib.Core.List.{List, ◌∷◌}
use mathlib.Core.Path.{◌≡◌, refl, sym, ◌∙◌}
use mathlib.Core.Bool.{Bool, true, false}
use lib.ListN.{length, take, drop}
use Rattle.rom.specs.Bytes.{pick, keep}
use Rattle.block.specs.Answer.{Verdict}
use Rattle.format.specs.Block.{is_listed}
use Rattle.block.specs.Answer.{block_of, number_of, size_in, listed_in}
use Rattle.block.proofs.Seen.{SeenAs, seen_size, seen-listed}
use Rattle.leaf.specs.Leaf.{cut, PlacedBlock, placed, table, table_of}
use Rattle.leaf.proofs.Cuts.{rest_part, next-seen, next-fine}
use Rattle.leaf.proofs.Stepping.{Passing, passing-more, placed-more, placed-none}
use Rattle.leaf.proofs.Tables.{few-one, listed_at, table-cons, table_more}
use Rattle.reader.specs.declared.Part.{Part}
use Rattle.reader.specs.Table.{part_at, entry_part}
use Rattle.reader.proofs.Entries.{part-front, part-last}

-- `behind` counts the entries of the blocks ps that are left
pub record StillAhead (row level : ℕ) (whole : List PlacedBlock) (ps : List PlacedBlock) (behind wanted : ℕ) : Type 0 where
  pub counted : behind ≡ length (table row level ps)
  pub there : wanted < behind
  pub same : entry_part row (table row level ps) wanted ≡ entry_part row whole wanted

module _ {row level : ℕ} {whole ps : List PlacedBlock} {p : PlacedBlock} {b : Verdict} {behind wanted : ℕ}
    (inv : StillAhead row level whole (p ∷ ps) behind wanted) (v : SeenAs row level p.rest b) (z : number_of b ≡ 0) where
  kept-behind : listed_in b ≤ behind
  kept-behind = omega (arith, inv.counted, table_more p ps v z)

  -- the wanted entry is the block's that leaves as many entries behind it as its number says
  kept_here : behind - listed_in b ≡ wanted → part_at row p ≡ entry_part row whole wanted
  unfolding listed_at pick
  kept_here e = go (is_listed row level p.rest) refl
    where
      go : (t : Bool) → is_listed row level p.rest ≡ t → part_at row p ≡ entry_part row whole wanted
      go true f =
          let l : length (table row level ps) ≡ wanted = omega (arith, inv.counted, table_more p ps v z) in
          sym (part-last row (table row level ps) p wanted l) ∙ (rw (table-cons, f) at inv.same)
      go false f = let n = rw f at (seen-listed v z) in absurd (omega (arith, inv.there))

  kept_more : (behind - listed_in b ≡ wanted → ⊥) → StillAhead row level whole ps (behind - listed_in b) wanted
  kept_more n =
      let m = table_more p ps v z in
      let few : listed_in b ≤ 1 = rw (← seen-listed v z) (few-one (is_listed row level p.rest)) in
      let l : wanted < length (table row level ps) = omega (arith, inv.counted, inv.there) in
      record {
        counted = omega (arith, inv.counted);
        there = omega (arith, inv.counted);
        same = sym (part-front row (table row level ps) (listed_at row level p) wanted l) ∙ (rw table-cons at inv.same);
      }

-- What the loop of `find` keeps: i blocks are passed, the next stands where stepping leads, and the places that are left are those
-- from it on.
pub record Finding (row level first count : ℕ) (blocks : List ℕ) (i : ℕ) (rest : List ℕ) (at behind wanted : ℕ) : Type 0 where
  pub passing : Passing row level first count blocks i at rest
  pub kept : StillAhead row level (table_of row level count first blocks) (drop i (placed row first (cut row count blocks))) behind wanted

-- The steps of `find` in its own terms.
module _ (row level first count : ℕ) (blocks : List ℕ) {i at : ℕ} (rest : List ℕ) {behind wanted : ℕ}
    (inv : Finding row level first count blocks i rest at behind wanted) where
  module _ {b : Verdict} (h : i < count) (eb : b ≡ block_of row level rest) where
    view : SeenAs row level rest b
    view = next-seen row level count rest inv.passing.accepted h eb

    fine : number_of b ≡ 0
    fine = next-fine row level count rest inv.passing.accepted h eb

    opened : StillAhead row level (table_of row level count first blocks)
        (record { start = at; rest = rest } ∷ drop (i + 1) (placed row first (cut row count blocks))) behind wanted
    opened = rw (placed-more row first count i at blocks rest inv.passing.stands h) at inv.kept

    pub find-behind : {n : ℕ} → n ≡ listed_in b → n ≤ behind
    find-behind en = rw en (kept-behind opened view fine)

    pub find-here : {z n : ℕ} → z ≡ size_in b → n ≡ listed_in b → behind - n ≡ wanted
        → ◌≡◌ {A = Part} (record { start = at; length = z }) (entry_part row (table_of row level count first blocks) wanted)
    find-here ez en e = rw (ez, seen_size view fine) (kept_here opened view fine (rw en at e))

    pub find-more : {z n : ℕ} → z ≡ size_in b → n ≡ listed_in b → (behind - n ≡ wanted → ⊥)
        → Finding row level first count blocks (i + 1) (take (length rest - z) (drop z rest)) (at + z) (behind - n) wanted
    find-more {z} ez en ne =
        record {
          passing = passing-more inv.passing h (ez ∙ seen_size view fine) (rest_part z rest);
          kept = rw en (kept_more opened view fine (rw en at ne));
        }

  -- the blocks do not end before the entry
  pub find-never : count ≤ i → ⊥
  unfolding table keep
  find-never h =
      let e = rw (placed-none row first count i blocks h) at inv.kept in
      omega (arith, e.counted, e.there)
