-- The arrays, tabled by the table of the blocks that are left, are those that the whole table gives, which is what `fill` keeps.
-- Assumes nothing.
use Prim.Native.Nat.{ℕ, suc, ◌+◌, ◌-◌, ◌≤◌, ◌<◌}
use native.Mathlib.Omega.{arith}
use native.Mathlib.Nat.{le_refl}
use native.Mathlib.Numerals.{add-one}
use mathlib.Core.List.{List, [], ◌∷◌, ◌++◌, map-append, append_assoc, append-nil}
use mathlib.Core.Path.{◌≡◌, refl, ◌∙◌}
use lib.ListN.{length, take, drop, set, length-append, length-set}
use lib.Seq.{drop-cons, get_or-set_same, drop-set-lt, lt-length-set}
use Rattle.rom.specs.Bytes.{pick, keep}
use Rattle.block.specs.Answer.{Verdict}
use Rattle.block.specs.Answer.{Listed, Reset, Power, Unknown, Refused}
use Rattle.format.specs.Block.{is_listed}
use Rattle.block.specs.Answer.{block_of, number_of, size_in, listed_in, kind_in}
use Rattle.block.proofs.Seen.{SeenAs, refused, unknown, a-reset, a-power, a-medium, seen_size, seen-kind}
use Rattle.leaf.specs.Leaf.{cut, PlacedBlock, placed, table, table_of, kind_at, start_at}
use Rattle.leaf.proofs.Cuts.{rest_part, next-seen, next-fine}
use Rattle.leaf.proofs.Stepping.{Passing, passing-more, placed-more, placed-none}
use Rattle.leaf.proofs.Tables.{listed_at, table-cons, table_more}
use Rattle.reader.specs.Inside.{stored}
use Rattle.reader.specs.Table.{tabled}

-- one entry more at the front of an array, by one store
tabled-set : (f : PlacedBlock → ℕ) (t : List PlacedBlock) (x : PlacedBlock) (a : List ℕ) → length t < length a
    → tabled f t (set a (length t) (f x)) ≡ tabled f (t ++ x ∷ []) a
unfolding tabled
tabled-set f t x a h =
    let l : length t < length (set a (length t) (f x)) = lt-length-set a (length t) (f x) h in
    let k : length t < suc (length t) = le_refl _ in
    let front = drop-cons (set a (length t) (f x)) (length t) 0 l in
    let same = get_or-set_same a (length t) (f x) 0 h in
    let after = drop-set-lt (suc (length t)) a (length t) (f x) k in
    simp (tabled, map-append, length-append, append_assoc, add-one, front, same, after)

pub stored-length : (v : ℕ) (b : Verdict) (free : ℕ) (a : List ℕ) → length (stored v b free a) ≡ length a
stored-length v (Listed m) free a = length-set a _ _
stored-length v (Reset s) free a = refl
stored-length v (Power s m) free a = refl
stored-length v (Unknown s) free a = refl
stored-length v (Refused n) free a = refl

-- the store that `place` makes for a block brings an array from the table of the blocks after it to the table with it
tabled-more : {row level : ℕ} (p : PlacedBlock) {b : Verdict} (f : PlacedBlock → ℕ) (v : ℕ) (ps : List PlacedBlock) (free : ℕ) (a : List ℕ)
    → SeenAs row level p.rest b → number_of b ≡ 0 → (0 < listed_in b → v ≡ f p)
    → free ≡ length (table row level (p ∷ ps)) → free ≤ length a
    → tabled f (table row level ps) (stored v b free a) ≡ tabled f (table row level (p ∷ ps)) a
unfolding listed_at is_listed pick
tabled-more p f v ps free a (refused n e h) z w m l = absurd (h z)
tabled-more {row} {level} p f v ps free a (unknown e g) z w m l = rw table-cons (simp (g, append-nil))
tabled-more {row} {level} p f v ps free a (a-reset e g' h) z w m l = let g = rw h at g' in rw table-cons (simp (h, g, append-nil))
tabled-more {row} {level} p f v ps free a (a-power e g' h) z w m l = let g = rw h at g' in rw table-cons (simp (h, g, append-nil))
tabled-more {row} {level} p f v ps free a (a-medium e g h) z w m l =
    let n : free ≡ length (table row level ps) + 1 = m ∙ table_more p ps (a-medium e g h) refl in
    let o : free - 1 ≡ length (table row level ps) = omega arith in
    rw (o, w (omega arith), table-cons) (simp (g, h.0, h.1) (tabled-set f (table row level ps) p a (omega arith)))

pub record FilledTable (row level : ℕ) (whole ps : List PlacedBlock) (free : ℕ) (k₀ o₀ k o : List ℕ) : Type 0 where
  pub kinds : tabled (kind_at row) (table row level ps) k ≡ tabled (kind_at row) (table row level whole) k₀
  pub offsets : tabled start_at (table row level ps) o ≡ tabled start_at (table row level whole) o₀
  pub places : free ≡ length (table row level ps)
  pub room-k : free ≤ length k
  pub room-o : free ≤ length o
  pub same-k : length k ≡ length k₀
  pub same-o : length o ≡ length o₀

module _ {row level : ℕ} {whole ps : List PlacedBlock} {p : PlacedBlock} {b : Verdict} {free : ℕ} {k₀ o₀ k o : List ℕ}
    (inv : FilledTable row level whole (p ∷ ps) free k₀ o₀ k o) (v : SeenAs row level p.rest b) (z : number_of b ≡ 0) where
  filled-place : listed_in b ≤ free
  filled-place = omega (arith, inv.places, table_more p ps v z)

  filled_more : FilledTable row level whole ps (free - listed_in b) k₀ o₀ (stored (kind_in b) b free k) (stored p.start b free o)
  filled_more = record {
    kinds = tabled-more p (kind_at row) (kind_in b) ps free k v z (seen-kind v) inv.places inv.room-k ∙ inv.kinds;
    offsets = tabled-more p start_at p.start ps free o v z (λ l. refl) inv.places inv.room-o ∙ inv.offsets;
    places = omega (arith, inv.places, table_more p ps v z);
    room-k = omega (arith, inv.room-k, stored-length (kind_in b) b free k);
    room-o = omega (arith, inv.room-o, stored-length p.start b free o);
    same-k = stored-length (kind_in b) b free k ∙ inv.same-k;
    same-o = stored-length p.start b free o ∙ inv.same-o;
  }

-- What the loop of `fill` keeps: i blocks are passed, the next stands where stepping leads, and the places that are left are those
-- from it on.
pub record FillingTable (row level first count : ℕ) (blocks : List ℕ) (i : ℕ) (rest : List ℕ) (at free : ℕ)
    (k₀ o₀ k o : List ℕ) : Type 0 where
  pub passing : Passing row level first count blocks i at rest
  pub filled : FilledTable row level (placed row first (cut row count blocks))
      (drop i (placed row first (cut row count blocks))) free k₀ o₀ k o

-- The steps of `fill` in its own terms.
module _ (row level first count : ℕ) (blocks : List ℕ) {i at : ℕ} (rest : List ℕ) {free : ℕ} {k₀ o₀ k o : List ℕ}
    (inv : FillingTable row level first count blocks i rest at free k₀ o₀ k o) where
  module _ {b : Verdict} (h : i < count) (eb : b ≡ block_of row level rest) where
    view : SeenAs row level rest b
    view = next-seen row level count rest inv.passing.accepted h eb

    fine : number_of b ≡ 0
    fine = next-fine row level count rest inv.passing.accepted h eb

    opened : FilledTable row level (placed row first (cut row count blocks))
        (record { start = at; rest = rest } ∷ drop (i + 1) (placed row first (cut row count blocks))) free k₀ o₀ k o
    opened = rw (placed-more row first count i at blocks rest inv.passing.stands h) at inv.filled

    pub fill-place : listed_in b ≤ free
    fill-place = filled-place opened view fine

    pub fill_more : {z u : ℕ} {k' o' : List ℕ} → z ≡ size_in b → u ≡ free - listed_in b → k' ≡ stored (kind_in b) b free k
        → o' ≡ stored at b free o
        → FillingTable row level first count blocks (i + 1) (take (length rest - z) (drop z rest)) (at + z) u k₀ o₀ k' o'
    fill_more {z} ez eu ek eo =
        record {
          passing = passing-more inv.passing h (ez ∙ seen_size view fine) (rest_part z rest);
          filled = rw (eu, ek, eo) (filled_more opened view fine);
        }

  pub fill_done : count ≤ i → (k ≡ tabled (kind_at row) (table_of row level count first blocks) k₀)
      × (o ≡ tabled start_at (table_of row level count first blocks) o₀)
  unfolding table keep tabled table_of
  fill_done h = let e = rw (placed-none row first count i blocks h) at inv.filled in (e.kinds, e.offsets)
