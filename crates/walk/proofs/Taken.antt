-- A code of edition 1.00 and what it is taken as, by cases over the code. Assumes nothing.
use Prim.Native.Nat.{ℕ, ◌-◌}
use mathlib.Core.Path.{◌≡◌, refl, ap, ap₂}
use mathlib.Core.List.{List, [], ◌∷◌, ◌++◌, map}
use lib.ListN.{length, replicate}
use mathlib.Core.Bool.{Bool, true, false, ◌&&◌}
use lib.Dec.{eqb}
use borrow.Author.Tests.{eqb-true}
use Rattle.rom.specs.Bytes.{pick, one}
use Rattle.format.specs.Chips.{taken_as}
use Rattle.format.specs.Block.{kind_of, facts_of, is_listed}
use Rattle.walk.specs.declared.Way.{Way}
use Rattle.walk.specs.Walk.{way_of, is_fixed, has_medium, row_length, flags, is_fixed_medium, rows_of}
use Rattle.walk.specs.Claims.{TakenAlike}
use Rattle.walk.proofs.Computes.{look-computes}

-- what is so of 0x0200, of 0x0203 and of every type that stands for itself is so of every type
by_code : (P : ℕ → ℕ → Type 0) → P 0x0200 0x0204 → P 0x0203 0x0205 → ((c : ℕ) → P c c) → (c : ℕ) → P c (taken_as c)
unfolding taken_as pick
by_code P p q r c = go (eqb c 0x0200) (eqb-true c 0x0200) (eqb c 0x0203) (eqb-true c 0x0203)
  where
    go : (t : Bool) → (t ≡ true → c ≡ 0x0200) → (u : Bool) → (u ≡ true → c ≡ 0x0203) → P c (pick t 0x0204 (pick u 0x0205 c))
    go true e u f = rw (e refl) p
    go false e true f = rw (f refl) q
    go false e false f = r c

pub same-way-taken : (c : ℕ) → way_of c ≡ way_of (taken_as c)
unfolding look-computes
same-way-taken = by_code (λ c d. way_of c ≡ way_of d) refl refl (λ c. refl)

pub taken_twice : (c : ℕ) → taken_as c ≡ taken_as (taken_as c)
unfolding taken_as pick
taken_twice = by_code (λ c d. taken_as c ≡ taken_as d) refl refl (λ c. refl)

same-medium : (c row level : ℕ) (s : List ℕ) → is_fixed_medium c row level s ≡ is_fixed_medium (taken_as c) row level s
unfolding is_fixed_medium
same-medium c row level s =
    let facts = facts_of (kind_of row s) s in
    ap₂ (λ (way : Way) (d : ℕ). is_listed row level s && (is_fixed way && has_medium d facts.code facts.capabilities))
    (same-way-taken c) (taken_twice c)

same_flags : (p q : List ℕ → Bool) → ((s : List ℕ) → p s ≡ q s) → (bs : List (List ℕ)) → flags p bs ≡ flags q bs
unfolding flags
same_flags p q e bs = ap (λ (row : List ℕ). row ++ replicate (row_length - length bs) 0) (go bs)
  where
    go : (bs : List (List ℕ)) → map (λ s. one (p s)) bs ≡ map (λ s. one (q s)) bs
    go [] = refl
    go (s ∷ bs) = rw (e s, go bs)

pub taken-alike : TakenAlike
unfolding rows_of
taken-alike c row level bs =
    (same-way-taken c, rw (same_flags (is_fixed_medium c row level) (is_fixed_medium (taken_as c) row level) (same-medium c row level) bs))
