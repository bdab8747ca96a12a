-- The first cause that is met answers exactly for a list of causes: by induction over the list.
-- Assumes nothing.
use Prim.Native.Nat.{ℕ, zero, suc, ◌<◌}
use native.Mathlib.Nat.{le_of_suc-le-suc, not-suc-le-zero, zero-lt-suc, suc-le-suc_iff}
use native.Mathlib.Omega.{arith}
use mathlib.Core.Path.{◌≡◌, refl, sym, ◌∙◌}
use mathlib.Core.Bool.{Bool, true, false}
use mathlib.Core.List.{List, [], ◌∷◌, ◌++◌}
use lib.ListN.{length}
use Rattle.rom.specs.Bytes.{pick}
use Rattle.rom.specs.Claims.{FirstIsExact}
use Rattle.rom.specs.Refusal.{Cause, first_met, cause_at, First, Numbered, Exact}

later : (c : Cause) (cs : List Cause) (n : ℕ) → c.met ≡ false → First cs n → First (c ∷ cs) n
later c cs n e f = record {
  place = suc f.place;
  within = suc-le-suc_iff.1 f.within;
  number = f.number;
  met = f.met;
  earlier = before;
}
  where
    before : (j : ℕ) → j < suc f.place → (cause_at (c ∷ cs) j).met ≡ false
    before zero l = e
    before (suc j) l = f.earlier j (le_of_suc-le-suc l)

there : (cs : List Cause) (n : ℕ) → 0 < n → first_met cs ≡ n → First cs n
unfolding first_met pick
there [] n h e = absurd (omega arith)
there (c ∷ cs) n h e = go c.met refl (there cs n h) e
  where
    go : (t : Bool) → c.met ≡ t → (first_met cs ≡ n → First cs n) → pick t c.number (first_met cs) ≡ n → First (c ∷ cs) n
    go true g ih e =
        record { place = 0; within = zero-lt-suc (length cs); number = e; met = g; earlier = λ j l. absurd (not-suc-le-zero l) }
    go false g ih e = later c cs n g (ih e)

back : (cs : List Cause) (k : ℕ) → k < length cs → (cause_at cs k).met ≡ true → ((j : ℕ) → j < k → (cause_at cs j).met ≡ false)
    → first_met cs ≡ (cause_at cs k).number
unfolding first_met pick
back [] k l e h = absurd (not-suc-le-zero l)
back (c ∷ cs) zero l e h = rw e
back (c ∷ cs) (suc k) l e h = rw (h 0 (zero-lt-suc k)) (back cs k (le_of_suc-le-suc l) e (λ j g. h (suc j) (suc-le-suc_iff.1 g)))

-- an accepted list's first cause is not met, and its others are accepted
pub none_here : (c : Cause) (cs : List Cause) → 0 < c.number → first_met (c ∷ cs) ≡ 0 → (c.met ≡ false) × (first_met cs ≡ 0)
unfolding first_met pick
none_here c cs h e = go c.met refl e
  where
    go : (t : Bool) → c.met ≡ t → pick t c.number (first_met cs) ≡ 0 → (c.met ≡ false) × (first_met cs ≡ 0)
    go true g e = absurd (omega arith)
    go false g e = (g, e)

pub none-met : (cs : List Cause) → Numbered cs → first_met cs ≡ 0 → (j : ℕ) → (cause_at cs j).met ≡ false
none-met [] h e j = refl
none-met (c ∷ cs) h e zero = (none_here c cs h.0 e).0
none-met (c ∷ cs) h e (suc j) = none-met cs h.1 (none_here c cs h.0 e).1 j

all-unmet : (cs : List Cause) → ((j : ℕ) → (cause_at cs j).met ≡ false) → first_met cs ≡ 0
unfolding first_met pick
all-unmet [] h = refl
all-unmet (c ∷ cs) h = rw (h 0) (all-unmet cs (λ j. h (suc j)))

unique : (cs : List Cause) (n : ℕ) → Exact cs n → n ≡ first_met cs
unique cs zero x = sym (all-unmet cs (x.accepted refl))
unique cs (suc n) x =
    let f = x.refused (zero-lt-suc n) in sym (back cs f.place f.within f.met f.earlier ∙ f.number)

pub exact : FirstIsExact
exact cs h =
    (record { refused = λ p. there cs (first_met cs) p refl; accepted = none-met cs h }, unique cs)

pub numbered-append : (cs ds : List Cause) → Numbered cs → Numbered ds → Numbered (cs ++ ds)
numbered-append [] ds h g = g
numbered-append (c ∷ cs) ds h g = (h.0, numbered-append cs ds h.1 g)

-- causes that follow accepted ones decide, and those that follow refused ones do not
pub after-accepted : (cs ds : List Cause) → Numbered cs → first_met cs ≡ 0 → first_met (cs ++ ds) ≡ first_met ds
unfolding first_met pick
after-accepted [] ds h e = refl
after-accepted (c ∷ cs) ds h e = let n = none_here c cs h.0 e in rw n.0 (after-accepted cs ds h.1 n.1)

pub after-refused : (cs ds : List Cause) (n : ℕ) → (n ≡ 0 → ⊥) → first_met cs ≡ n → first_met (cs ++ ds) ≡ n
unfolding first_met pick
after-refused [] ds n h e = absurd (h (sym e))
after-refused (c ∷ cs) ds n h e = go c.met (after-refused cs ds n h) e
  where
    go : (t : Bool) → (first_met cs ≡ n → first_met (cs ++ ds) ≡ n) → pick t c.number (first_met cs) ≡ n
        → pick t c.number (first_met (cs ++ ds)) ≡ n
    go true ih e = e
    go false ih e = ih e

-- both parts of an accepted list are accepted
pub both-accepted : (cs ds : List Cause) → Numbered cs → first_met (cs ++ ds) ≡ 0 → (first_met cs ≡ 0) × (first_met ds ≡ 0)
unfolding first_met pick
both-accepted [] ds h e = (refl, e)
both-accepted (c ∷ cs) ds h e =
    let n = none_here c (cs ++ ds) h.0 e in
    let r = both-accepted cs ds h.1 n.1 in
    (rw n.0 r.0, r.1)
