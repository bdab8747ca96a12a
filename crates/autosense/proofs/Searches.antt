-- What a search of a range from its end finds, and one of the front of a list. Assumes nothing.
use Rattle.std.proofs.Common.{◌≡◌, ℕ, zero, suc, ◌+◌, ◌-◌, ◌≤◌, Bool, true, false, cond, ◌||◌, List, [], ◌∷◌, length, take, refl, ap, sym}
use Rattle.std.proofs.Common.{◌∙◌, Option, Some, None, Bor, add-one, arith}
use native.Mathlib.Nat.{sub-zero}
use Rattle.std.specs.declared.ops.Range.{Range}
use Rattle.std.specs.Range.{range_steps_back}
use Rattle.std.specs.Iterator.{AlwaysYields, FindsItem}
use Rattle.std.specs.List.{find, list_any, slice_range}
use Rattle.std.specs.Option.{option_map}
use Rattle.std.specs.Fn.{CalledAt}
use Rattle.std.proofs.lemmas.Iterator.Search.{find_from_yields_List}
use Rattle.std.proofs.lemmas.List.Folds.{list_any_more}
use Rattle.std.proofs.Math.Bool.{or_comm}
use borrow.Author.Tests.{le-ltb}
use lib.Dec.{ltb}
use denote.Param.Members.{Mut}
use Rattle.rom.specs.Numbers.{number_or_none}
use Rattle.rom.specs.Bytes.{pick, byte_at, any_below}
use Rattle.walk.specs.Walk.{last_below, bad_report}

-- ## From the end of a range

-- the numbers below n, the last first
abbrev numbers_down : ℕ → List ℕ
numbers_down zero = []
numbers_down (suc n) = n ∷ numbers_down n

abbrev steps_down : Range ℕ → Option ℕ → Range ℕ → Type 0
steps_down = range_steps_back (λ x y. y - x) (λ x y. y ≡ x + 1)

yields_down : (n : ℕ) (s : Range ℕ) → s.start ≡ 0 → s.end ≡ n → AlwaysYields steps_down (λ x. x) s (numbers_down n)
yields_down zero s a e = λ x j p. omega (arith, p.1.0)
yields_down (suc n) s a e = (
  (λ j p. omega (arith, p.1.0)),
  λ x j p. let f : j.end ≡ n = omega (arith, p.1.2) in (p.1.1 ∙ f, yields_down n j (p.0 ∙ a) f),
)

find_down : (p : ℕ → Bool) (n : ℕ) → number_or_none (find p (numbers_down n)) ≡ last_below p n
unfolding last_below pick
find_down p zero = refl
find_down p (suc n) = go (p n) (find_down p n)
  where
    go : (t : Bool) → number_or_none (find p (numbers_down n)) ≡ last_below p n
        → number_or_none (cond t (Some n) (find p (numbers_down n))) ≡ pick t n (last_below p n)
    go true e = refl
    go false e = e

same_number : (r : Option ℕ) → number_or_none r ≡ number_or_none (option_map (λ x. x) r)
same_number (Some k) = refl
same_number None = refl

pub last_found : {F : Type 0} {g : Mut F (Bor ℕ × Unit {0}) Bool} {s : Range ℕ} {f : F} (p : ℕ → Bool) (n : ℕ) (u : Range ℕ) (r : Option ℕ)
    → s ≡ record { start = 0; end = n } → FindsItem steps_down g s f r u
    → ((x : ℕ) (b : Bool) (q : F) → CalledAt g f x b q → (q ≡ f) × (b ≡ p x)) → number_or_none r ≡ last_below p n
last_found {s = s} {f = f} p n u r e found called =
    let yields = yields_down n s (ap (λ (s : Range ℕ). s.start) e) (ap (λ (s : Range ℕ). s.end) e) in
    let finds = find_from_yields_List {steps = steps_down} {s = s} p u f r found (record { runs = yields }) called in
    same_number r ∙ ap number_or_none finds ∙ find_down p n

-- ## The front of a list

any_front : (p : ℕ → Bool) (s : List ℕ) (n : ℕ) → n ≤ length s → any_below (λ k. p (byte_at s k)) n ≡ list_any p (take n s)
unfolding any_below
any_front p s zero h = refl
any_front p s (suc n) h =
    let more = list_any_more p s n 0 (omega arith) in
    ap (λ (t : Bool). p (byte_at s n) || t) (any_front p s n (omega arith)) ∙ or_comm (p (byte_at s n)) (list_any p (take n s))
    ∙ sym (rw add-one at more)

pub any_link : (report links : List ℕ) (blocks : ℕ) → blocks ≤ length report → links ≡ slice_range report 0 blocks
    → list_any (ltb 1) links ≡ bad_report report blocks
unfolding bad_report
any_link report links blocks h e =
    rw (e, sub-zero) (sym (any_front (ltb 1) report blocks h) ∙ sym (simp (le-ltb (length report) blocks h)))
