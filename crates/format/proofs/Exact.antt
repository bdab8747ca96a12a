-- A block's refusal is the first of its causes that is met, so it is exact as any first cause is. Assumes nothing.
use Prim.Native.Nat.{ℕ, suc}
use native.Mathlib.Omega.{arith}
use mathlib.Core.Path.{◌≡◌, refl, ap, sym}
use mathlib.Core.Bool.{Bool, true, false, ◌&&◌, ◌||◌, not}
use mathlib.Core.List.{List, [], ◌∷◌}
use lib.Dec.{lit<, eqb, leb, ltb}
use lib.ListN.{length}
use borrow.Author.Tests.{le-ltb}
use Rattle.rom.specs.Bytes.{pick, byte_at}
use Rattle.rom.specs.Refusal.{first_met, Numbered}
use Rattle.rom.proofs.First.{exact}
use Rattle.rom.proofs.Reached.{reached, skip, stop}
use Rattle.rom.proofs.Truth.{true-false}
use Rattle.format.specs.Chips.{is_permitted}
use Rattle.format.specs.Block.{is21041, is_extended, length_of, size_of, kind_of, is_known, causes, refusal_in, refusal_of}
use Rattle.format.specs.Claims.{ExactBlock, EmptyRefused, ExtendedRefused, OthersAlike}

pub causes-numbered : (first : Bool) (row level : ℕ) (s : List ℕ) → Numbered (causes first row level s)
unfolding causes
causes-numbered first row level s = (lit< tt, (lit< tt, (lit< tt, (lit< tt, (lit< tt, tt)))))

pub exact-block : ExactBlock
unfolding refusal_in
exact-block first row level s = (exact (causes first row level s) (causes-numbered first row level s)).0

pub empty-refused : EmptyRefused
unfolding refusal_of causes first_met size_of is_extended pick
empty-refused row level s = go s (is21041 row) refl
  where
    go : (s : List ℕ) (t : Bool) → is21041 row ≡ t → (not (is21041 row) && leb 128 (byte_at s 0)) ≡ true → length_of s ≡ 0
        → refusal_of row level s ≡ 14
    go s true f e z = true-false (sym (simp f at e))
    go [] false f e z = true-false (sym (simp f at e))
    go (b ∷ s) false f e z =
        let high : leb 128 (byte_at (b ∷ s) 0) ≡ true = rw f at e in
        let fits : ltb (suc (length s)) 1 ≡ false = le-ltb (suc (length s)) 1 (omega arith) in
        simp (f, high, z, fits)

-- ## The first version

pub extended-refused : ExtendedRefused
unfolding refusal_in causes
extended-refused row level s e h =
    let kind = kind_of row s in
    sym
    (reached
    (skip (le-ltb (length s) (size_of row s) h)
    (stop (ap (λ (x : Bool). x && (true || eqb (length_of s) 0) || is_known level kind && not (is_permitted row kind)) e))))

pub others-alike : OthersAlike
unfolding refusal_in refusal_of causes
others-alike row level s e = simp e
