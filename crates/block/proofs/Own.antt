-- An accepted block reads its own bytes only: each field that its facts go by lies inside its size. Assumes nothing.
use Prim.Native.Nat.{ℕ, ◌+◌, ◌*◌, ◌≤◌, ◌<◌, min}
use native.Mathlib.Omega.{arith}
use mathlib.Core.Path.{◌≡◌, refl, ap, sym, ◌∙◌}
use mathlib.Core.Bool.{Bool, true, false, ◌&&◌}
use mathlib.Core.List.{List}
use lib.Dec.{eqb, ltb, lit<}
use lib.ListN.{length, take, length-take}
use lib.Seq.{get_or-take}
use borrow.Author.Tests.{eqb-true, eqb-false, not-false, le-ltb}
use Rattle.rom.specs.Bytes.{pick, byte_at, word_at, Bytes}
use Rattle.rom.proofs.First.{none_here}
use Rattle.rom.proofs.Truth.{or-false}
use Rattle.format.specs.Chips.{kind_compact, kind21041}
use Rattle.format.specs.Block.{Facts, is21041, is_extended, length_of, sia_size, size_of, kind_of, is_known, g_count}
use Rattle.format.specs.Block.{r_count, capabilities_at}
use Rattle.format.specs.Block.{length_for, is_wrong, sia, port, symbol, phy, sequence, facts_of, causes, refusal_of}
use Rattle.block.specs.Answer.{block_of}
use Rattle.block.specs.Inside.{phy_length}
use Rattle.block.specs.Claims.{OwnBytes}
use Rattle.block.proofs.Judged.{type-2}
use Rattle.block.proofs.Phy.{type-1, type-3}
use Rattle.block.proofs.Whole.{size-positive}
use Rattle.block.proofs.Seen.{fits}

-- ## Kind and size, by the form

data Formed (s : List ℕ) : ℕ → ℕ → Type 0 where
  of-21041 : Formed s kind21041 (sia_size (byte_at s 0))
  compact : Formed s kind_compact 4
  extended : Formed s (byte_at s 1) (1 + length_of s)

formed : (row : ℕ) (s : List ℕ) → Formed s (kind_of row s) (size_of row s)
unfolding kind_of size_of pick
formed row s = go (is21041 row) (is_extended row s)
  where
    go : (t u : Bool)
        → Formed s (pick t kind21041 (pick u (byte_at s 1) kind_compact)) (pick t (sia_size (byte_at s 0)) (pick u (1 + length_of s) 4))
    go true u = of-21041
    go false true = extended
    go false false = compact

-- a kind that is a type is an extended block's
type-size : {s : List ℕ} {kind size : ℕ} → Formed s kind size → kind < kind_compact → size ≡ 1 + length_of s
type-size of-21041 h = absurd (omega arith)
type-size compact h = absurd (omega arith)
type-size extended h = refl

compact-size : {s : List ℕ} {kind size : ℕ} → Formed s kind size → Bytes s → kind ≡ kind_compact → size ≡ 4
compact-size of-21041 b e = absurd (omega arith)
compact-size compact b e = refl
compact-size extended b e = absurd (omega (arith, b 1))

a-type : {s : List ℕ} {kind size : ℕ} → Formed s kind size → Bytes s → (kind ≡ kind21041 → ⊥) → (kind ≡ kind_compact → ⊥)
    → kind < kind_compact
a-type of-21041 b f g = absurd (f refl)
a-type compact b f g = absurd (g refl)
a-type extended b f g = b 1

right : (kind : ℕ) (s : List ℕ) → is_wrong kind s ≡ false → length_of s ≡ length_for kind s
unfolding is_wrong
right kind s e = eqb-true (length_of s) (length_for kind s) (not-false _ e)

-- ## Facts that are the same where the length is right

abbrev SameFacts : Facts → Facts → Type 0
SameFacts f g = f.wrong_length ≡ false → g ≡ f

-- ## A rest that begins with the bytes of another's first block

module _ (row : ℕ) (s t : List ℕ) (bytes : Bytes s) (whole : size_of row s ≤ length s)
    (same : take (size_of row s) t ≡ take (size_of row s) s) where
  own : (i : ℕ) → i < size_of row s → byte_at t i ≡ byte_at s i
  own i h = sym (get_or-take (size_of row s) t i 0 h) ∙ ap (λ (x : List ℕ). byte_at x i) same ∙ get_or-take (size_of row s) s i 0 h

  own-word : (i : ℕ) → i + 1 < size_of row s → word_at t i ≡ word_at s i
  unfolding word_at
  own-word i h = let low : i < size_of row s = omega arith in rw (own i low, own (i + 1) h)

  -- ## Form, size and kind

  first : byte_at t 0 ≡ byte_at s 0
  first = own 0 (size-positive row s)

  own-extended : is_extended row t ≡ is_extended row s
  unfolding is_extended
  own-extended = rw first

  own-length : length_of t ≡ length_of s
  unfolding length_of
  own-length = rw first

  own-size : size_of row t ≡ size_of row s
  unfolding size_of
  own-size = rw (first, own-extended, own-length)

  own-kind : (is_extended row s && eqb (length_of s) 0) ≡ false → kind_of row t ≡ kind_of row s
  unfolding kind_of size_of pick
  own-kind some = rw own-extended (go (is21041 row) refl (is_extended row s) refl)
    where
      go : (x : Bool) → is21041 row ≡ x → (y : Bool) → is_extended row s ≡ y
          → pick x kind21041 (pick y (byte_at t 1) kind_compact) ≡ pick x kind21041 (pick y (byte_at s 1) kind_compact)
      go true e y f = refl
      go false e false f = refl
      go false e true f =
          let more : length_of s ≡ 0 → ⊥ = eqb-false (length_of s) 0 (rw f at some) in
          let long : size_of row s ≡ 1 + length_of s = rw (e, f) in
          own 1 (omega (arith, more))

  own-fits : size_of row s ≤ length t
  own-fits =
      let cut : min (size_of row s) (length t) ≡ min (size_of row s) (length s) =
      sym (length-take (size_of row s) t) ∙ ap (λ (x : List ℕ). length x) same ∙ length-take (size_of row s) s in
      omega (arith, cut)

  -- ## The facts of each type, where the length is right

  own-g : 3 < size_of row s → g_count t ≡ g_count s
  unfolding g_count
  own-g h = own 3 h

  own-r : (unit : ℕ) → g_count t ≡ g_count s → 4 + unit * g_count s < size_of row s → r_count unit t ≡ r_count unit s
  unfolding r_count
  own-r unit g h = rw g (own (4 + unit * g_count s) h)

  module _ (kind : ℕ) (k : kind_of row s ≡ kind) (h : kind < kind_compact) where
    asked : is_wrong kind s ≡ false → size_of row s ≡ 1 + length_for kind s
    asked e = type-size (formed row s) (rw k h) ∙ ap (λ (n : ℕ). 1 + n) (right kind s e)

    wrong-same : length_for kind t ≡ length_for kind s → is_wrong kind t ≡ is_wrong kind s
    unfolding is_wrong
    wrong-same f = rw (own-length, f)

    own-phy : (unit : ℕ) → ((u : List ℕ) → length_for kind u ≡ phy_length unit u)
        → SameFacts (phy (is_wrong kind s) unit s) (phy (is_wrong kind t) unit t)
    unfolding phy phy_length capabilities_at
    own-phy unit l e =
        let n : size_of row s ≡ 1 + (11 + unit + unit * g_count s + unit * r_count unit s) = asked e ∙ ap (λ (n : ℕ). 1 + n) (l s) in
        let g : g_count t ≡ g_count s = own-g (omega (arith, n)) in
        let r : r_count unit t ≡ r_count unit s = own-r unit g (omega (arith, n)) in
        let c = own-word (5 + unit * g_count s + unit * r_count unit s) (omega (arith, n)) in
        let a = own-word (5 + unit * g_count s + unit * r_count unit s + 2) (omega (arith, n)) in
        let w = wrong-same (l t ∙ rw (g, r) (sym (l s))) in
        rw (w, g, r, c, a)

  -- ## Type by type

  own-type-0 : kind_of row s ≡ 0 → SameFacts (port (is_wrong 0 s) 2 s) (port (is_wrong 0 t) 2 t)
  unfolding port length_for pick
  own-type-0 k e =
      let n = asked 0 k (lit< tt) e in
      rw (wrong-same 0 k (lit< tt) refl, own 2 (omega (arith, n)), own-word 4 (omega (arith, n)))

  own-type-2 : kind_of row s ≡ 2 → SameFacts (sia (is_wrong 2 s) 2 s) (sia (is_wrong 2 t) 2 t)
  unfolding sia
  own-type-2 k e =
      let n = asked 2 k (lit< tt) e in
      let code : byte_at t 2 ≡ byte_at s 2 = own 2 (omega (arith, n, type-2 s)) in
      rw (wrong-same 2 k (lit< tt) (type-2 t ∙ rw code (sym (type-2 s))), code)

  own-type-4 : kind_of row s ≡ 4 → SameFacts (symbol (is_wrong 4 s) s) (symbol (is_wrong 4 t) t)
  unfolding symbol length_for pick
  own-type-4 k e =
      let n = asked 4 k (lit< tt) e in
      rw (wrong-same 4 k (lit< tt) refl, own 2 (omega (arith, n)), own-word 7 (omega (arith, n)))

  own-type-5 : kind_of row s ≡ 5 → SameFacts (sequence (is_wrong 5 s) 0) (sequence (is_wrong 5 t) 0)
  unfolding sequence length_for pick
  own-type-5 k e =
      let n = asked 5 k (lit< tt) e in
      rw (wrong-same 5 k (lit< tt) (rw (own 2 (omega (arith, n)))))

  -- the last form of `facts_of`, for every type that has no other
  own_power : kind_of row s < kind_compact → SameFacts (sequence (is_wrong 6 s) (byte_at s 2)) (sequence (is_wrong 6 t) (byte_at t 2))
  unfolding sequence is_wrong length_for g_count pick
  own_power h e =
      let l : length_of s ≡ 2 * byte_at s 3 + 3 = right 6 s e in
      let n = type-size (formed row s) h in
      rw (own-length, own 2 (omega (arith, n, l)), own 3 (omega (arith, n, l)))

  own-compact : kind_of row s ≡ kind_compact → SameFacts (port false 0 s) (port false 0 t)
  unfolding port
  own-compact k e =
      let n = compact-size (formed row s) bytes k in
      rw (first, own-word 2 (omega (arith, n)))

  own-21041 : SameFacts (sia false 0 s) (sia false 0 t)
  unfolding sia
  own-21041 e = rw first

  -- what `facts_of` says by its tests
  unfoldable facts-by : List ℕ → Bool → Bool → Bool → Bool → Bool → Bool → Bool → Bool → Facts
  facts-by u a b c d e f g h =
      pick a (sia false 0 u) (pick b (port false 0 u) (pick c (port (is_wrong 0 u) 2 u) (pick d (phy (is_wrong 1 u) 1 u)
      (pick e (sia (is_wrong 2 u) 2 u) (pick f (phy (is_wrong 3 u) 2 u) (pick g (symbol (is_wrong 4 u) u)
      (pick h (sequence (is_wrong 5 u) 0) (sequence (is_wrong 6 u) (byte_at u 2)))))))))

  own-facts : (k : ℕ) → kind_of row s ≡ k → SameFacts (facts_of k s) (facts_of k t)
  unfolding facts_of facts-by pick
  own-facts k h =
      go (eqb k kind21041) refl (eqb k kind_compact) refl (eqb k 0) refl (eqb k 1) refl (eqb k 2) refl (eqb k 3) refl (eqb k 4) refl
      (eqb k 5) refl
    where
      go : (x₁ : Bool) → eqb k kind21041 ≡ x₁ → (x₂ : Bool) → eqb k kind_compact ≡ x₂
          → (x₃ : Bool) → eqb k 0 ≡ x₃ → (x₄ : Bool) → eqb k 1 ≡ x₄ → (x₅ : Bool) → eqb k 2 ≡ x₅ → (x₆ : Bool) → eqb k 3 ≡ x₆ → (x₇ : Bool)
          → eqb k 4 ≡ x₇ → (x₈ : Bool) → eqb k 5 ≡ x₈
          → SameFacts (facts-by s x₁ x₂ x₃ x₄ x₅ x₆ x₇ x₈) (facts-by t x₁ x₂ x₃ x₄ x₅ x₆ x₇ x₈)
      go true e₁ x₂ e₂ x₃ e₃ x₄ e₄ x₅ e₅ x₆ e₆ x₇ e₇ x₈ e₈ = own-21041
      go false e₁ true e₂ x₃ e₃ x₄ e₄ x₅ e₅ x₆ e₆ x₇ e₇ x₈ e₈ = own-compact (h ∙ eqb-true k kind_compact e₂)
      go false e₁ false e₂ true e₃ x₄ e₄ x₅ e₅ x₆ e₆ x₇ e₇ x₈ e₈ = own-type-0 (h ∙ eqb-true k 0 e₃)
      go false e₁ false e₂ false e₃ true e₄ x₅ e₅ x₆ e₆ x₇ e₇ x₈ e₈ = own-phy 1 (h ∙ eqb-true k 1 e₄) (lit< tt) 1 type-1
      go false e₁ false e₂ false e₃ false e₄ true e₅ x₆ e₆ x₇ e₇ x₈ e₈ = own-type-2 (h ∙ eqb-true k 2 e₅)
      go false e₁ false e₂ false e₃ false e₄ false e₅ true e₆ x₇ e₇ x₈ e₈ = own-phy 3 (h ∙ eqb-true k 3 e₆) (lit< tt) 2 type-3
      go false e₁ false e₂ false e₃ false e₄ false e₅ false e₆ true e₇ x₈ e₈ = own-type-4 (h ∙ eqb-true k 4 e₇)
      go false e₁ false e₂ false e₃ false e₄ false e₅ false e₆ false e₇ true e₈ = own-type-5 (h ∙ eqb-true k 5 e₈)
      go false e₁ false e₂ false e₃ false e₄ false e₅ false e₆ false e₇ false e₈ =
          own_power (a-type (formed row s) bytes (λ e. eqb-false k kind21041 e₁ (sym h ∙ e)) (λ e. eqb-false k kind_compact e₂ (sym h ∙ e)))

-- ## An accepted block

and_right : (a b : Bool) → a ≡ true → (a && b) ≡ false → b ≡ false
and_right a b e f = rw e at f

module _ (row level : ℕ) (s other : List ℕ) (bytes : Bytes s) (e : refusal_of row level s ≡ 0)
    (same : take (size_of row s) other ≡ take (size_of row s) s) where
  whole : size_of row s ≤ length s
  whole = fits row level s e

  some : (is_extended row s && eqb (length_of s) 0) ≡ false
  unfolding refusal_of causes
  some = (or-false (is_extended row s && eqb (length_of s) 0) _ (none_here _ _ (lit< tt) (none_here _ _ (lit< tt) e).1).0).0

  right-length : (is_known level (kind_of row s) && (facts_of (kind_of row s) s).wrong_length) ≡ false
  unfolding refusal_of causes
  right-length = (none_here _ _ (lit< tt) (none_here _ _ (lit< tt) (none_here _ _ (lit< tt) e).1).1).0

  same_kind : kind_of row other ≡ kind_of row s
  same_kind = own-kind row s other bytes whole same some

  same-facts : is_known level (kind_of row s) ≡ true → facts_of (kind_of row s) other ≡ facts_of (kind_of row s) s
  same-facts k = own-facts row s other bytes whole same (kind_of row s) refl (and_right _ _ k right-length)

  same_size : size_of row other ≡ size_of row s
  same_size = own-size row s other bytes whole same

  same-form : is_extended row other ≡ is_extended row s
  same-form = own-extended row s other bytes whole same

  same_length : length_of other ≡ length_of s
  same_length = own-length row s other bytes whole same

  -- neither is past its end
  here : ltb (length s) (size_of row s) ≡ false
  here = le-ltb (length s) (size_of row s) whole

  there : ltb (length other) (size_of row s) ≡ false
  there = le-ltb (length other) (size_of row s) (own-fits row s other bytes whole same)

  own_block : block_of row level other ≡ block_of row level s
  unfolding block_of refusal_of causes pick
  own_block = go (is_known level (kind_of row s)) refl
    where
      go : (k : Bool) → is_known level (kind_of row s) ≡ k → block_of row level other ≡ block_of row level s
      go true k = rw (same_size, same-form, same_length, same_kind, same-facts k, here, there)
      go false k = rw (same_size, same-form, same_length, same_kind, k, here, there)

pub own-bytes : OwnBytes
own-bytes row level s other b e same = (
  own_block row level s other b e same,
  same_size row level s other b e same,
  same_kind row level s other b e same,
  same-facts row level s other b e same,
)
