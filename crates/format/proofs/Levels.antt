-- Acceptance goes down the levels: each cause can only vanish as fewer blocks are known. Assumes nothing.
use Prim.Native.Nat.{ℕ, ◌≤◌}
use native.Mathlib.Omega.{arith}
use mathlib.Core.Path.{◌≡◌, refl}
use mathlib.Core.Bool.{Bool, true, false, ◌&&◌, ◌||◌, not}
use mathlib.Core.List.{List}
use lib.Dec.{leb, ltb, eqb}
use borrow.Author.Tests.{ltb-true, lt-ltb}
use Rattle.rom.proofs.Fewer.{Fewer, end, and, fewer}
use Rattle.rom.proofs.Truth.{true-false}
use Rattle.format.specs.Block.{is_extended, length_of, kind_of, is_known, facts_of, causes, refusal_in, refusal_of, the_later_version}
use Rattle.format.specs.Chips.{kind_compact, is_permitted}
use Rattle.format.specs.Claims.{AcceptedBelow}
use Rattle.format.proofs.Exact.{causes-numbered}

-- what an older level knows the newest knows
pub known_up : (older newest kind : ℕ) → older ≤ newest → is_known older kind ≡ true → is_known newest kind ≡ true
unfolding is_known
known_up older newest kind h = go (leb kind_compact kind)
  where
    go : (c : Bool) → (c || ltb kind older) ≡ true → (c || ltb kind newest) ≡ true
    go true e = refl
    go false e = lt-ltb kind newest (omega (arith, ltb-true kind older e))

-- a test that counts only for what is known can only vanish as less is
pub and-down : (k l x : Bool) → (l ≡ true → k ≡ true) → (k && x) ≡ false → (l && x) ≡ false
and-down k true x h e = rw (h refl) at e
and-down k false x h e = refl

or-down : (b : Bool) {x y : Bool} → (x ≡ false → y ≡ false) → (b || x) ≡ false → (b || y) ≡ false
or-down true h e = e
or-down false h e = h e

pub causes-down : (first : Bool) (row older newest : ℕ) (s : List ℕ) → older ≤ newest
    → Fewer (causes first row newest s) (causes first row older s)
unfolding causes
causes-down first row older newest s h =
    let kind = kind_of row s in
    let f = facts_of kind s in
    let empty = is_extended row s && (first || eqb (length_of s) 0) in
    and (λ e. e)
    (and (or-down empty (and-down _ _ (not (is_permitted row kind)) up))
    (and (and-down _ _ f.wrong_length up)
    (and (and-down _ _ f.bad_code up)
    (and (and-down _ _ f.advertises_too_much up) end))))
  where
    up : is_known older (kind_of row s) ≡ true → is_known newest (kind_of row s) ≡ true
    up = known_up older newest (kind_of row s) h

pub down : AcceptedBelow
unfolding refusal_in
down first row older newest s h = fewer (causes-numbered first row newest s) (causes-down first row older newest s h)

-- what is accepted in version 1 is accepted in versions 3 and 4
pub causes-later : (first : Bool) (row level : ℕ) (s : List ℕ) → Fewer (causes first row level s) (causes the_later_version row level s)
unfolding causes
causes-later first row level s =
    and (λ e. e) (and (go first (is_extended row s) _ _) (and (λ e. e) (and (λ e. e) (and (λ e. e) end))))
  where
    go : (f x empty other : Bool) → (x && (f || empty) || other) ≡ false → (x && empty || other) ≡ false
    go false x empty other e = e
    go true true empty other e = true-false e
    go true false empty other e = e

pub later-accepts : (first : Bool) (row level : ℕ) (s : List ℕ) → refusal_in first row level s ≡ 0 → refusal_of row level s ≡ 0
unfolding refusal_in refusal_of
later-accepts first row level s = fewer (causes-numbered first row level s) (causes-later first row level s)
