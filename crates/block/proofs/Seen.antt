-- A view of what a block is found to be: each case with what its refusal and its kind then say. Assumes nothing.
use Prim.Native.Nat.{ℕ, zero, suc, ◌≤◌, ◌<◌}
use native.Mathlib.Omega.{arith}
use mathlib.Core.List.{List}
use mathlib.Core.Path.{◌≡◌, refl, sym, ◌∙◌}
use mathlib.Core.Bool.{Bool, true, false, ◌&&◌, ◌||◌, not}
use lib.Dec.{eqb, lit<, eqb-suc-zero}
use lib.ListN.{length}
use borrow.Author.Tests.{ltb-false, eqb-true}
use Rattle.rom.specs.Geometry.{none}
use Rattle.rom.specs.Bytes.{pick, one, byte_at}
use Rattle.rom.proofs.First.{none_here}
use Rattle.block.specs.Answer.{Verdict}
use Rattle.block.specs.Answer.{Reset, Power, Unknown, Refused}
use Rattle.format.specs.Block.{Facts, size_of, kind_of, is_known, sequence, facts_of, is_listed, is_power, is_default, resets_a_phy, causes}
use Rattle.format.specs.Block.{refusal_of}
use Rattle.block.specs.Answer.{listed, found, answered, block_in, block_of, number_of, size_in, listed_in, kind_in, invalid_in, default_in}
use Rattle.block.specs.Answer.{phy_reset_in, code_in, capabilities_in, mode_in}
use Rattle.block.specs.Claims.{AnswersRefusal, AnswersEntry, AnswersMedium, AnswersFlags, AnswersMode, AnswersRefused}

pub data SeenAs (row level : ℕ) (s : List ℕ) : Verdict → Type 0 where
  refused : (n : ℕ) → refusal_of row level s ≡ n → (n ≡ 0 → ⊥) → SeenAs row level s (Refused n)
  unknown : refusal_of row level s ≡ 0 → is_known level (kind_of row s) ≡ false → SeenAs row level s (Unknown (size_of row s))
  a-reset : refusal_of row level s ≡ 0 → is_known level (kind_of row s) ≡ true → kind_of row s ≡ 5
      → SeenAs row level s (Reset (size_of row s))
  a-power : refusal_of row level s ≡ 0 → is_known level (kind_of row s) ≡ true → kind_of row s ≡ 6
      → SeenAs row level s (Power (size_of row s) (facts_of (kind_of row s) s).mode)
  a-medium : refusal_of row level s ≡ 0 → is_known level (kind_of row s) ≡ true
      → (eqb (kind_of row s) 5 ≡ false) × (eqb (kind_of row s) 6 ≡ false)
      → SeenAs row level s (listed (kind_of row s) (size_of row s) (facts_of (kind_of row s) s))

pub seen_as : (row level : ℕ) (s : List ℕ) → SeenAs row level s (block_of row level s)
unfolding block_of answered found pick
seen_as row level s =
    go (refusal_of row level s) refl (is_known level (kind_of row s)) refl (eqb (kind_of row s) 5) refl (eqb (kind_of row s) 6) refl
  where
    facts : Facts
    facts = facts_of (kind_of row s) s

    go : (n : ℕ) → refusal_of row level s ≡ n → (t : Bool) → is_known level (kind_of row s) ≡ t → (u : Bool) → eqb (kind_of row s) 5 ≡ u
        → (v : Bool) → eqb (kind_of row s) 6 ≡ v
        → SeenAs row level s
        (pick (eqb n 0)
        (pick t
        (pick u (Reset (size_of row s)) (pick v (Power (size_of row s) facts.mode) (listed (kind_of row s) (size_of row s) facts)))
        (Unknown (size_of row s))) (Refused n))
    go zero e true f true g v h = a-reset e f (eqb-true (kind_of row s) 5 g)
    go zero e true f false g true h = a-power e f (eqb-true (kind_of row s) 6 h)
    go zero e true f false g false h = a-medium e f (g, h)
    go zero e false f u g v h = unknown e f
    go (suc n) e t f u g v h = rw (eqb-suc-zero n) (refused (suc n) e (λ z. omega arith))

pub seen-number : {row level : ℕ} {s : List ℕ} {b : Verdict} → SeenAs row level s b → number_of b ≡ refusal_of row level s
seen-number (refused n e h) = sym e
seen-number (unknown e f) = sym e
seen-number (a-reset e f g) = sym e
seen-number (a-power e f g) = sym e
seen-number (a-medium e f g) = sym e

pub seen_size : {row level : ℕ} {s : List ℕ} {b : Verdict} → SeenAs row level s b → number_of b ≡ 0 → size_in b ≡ size_of row s
seen_size (refused n e h) z = absurd (h z)
seen_size (unknown e f) z = refl
seen_size (a-reset e f g) z = refl
seen_size (a-power e f g) z = refl
seen_size (a-medium e f g) z = refl

-- whether it is listed
pub seen-listed : {row level : ℕ} {s : List ℕ} {b : Verdict} → SeenAs row level s b → number_of b ≡ 0 → one (is_listed row level s)
    ≡ listed_in b
unfolding is_listed
seen-listed (refused n e h) z = absurd (h z)
seen-listed (unknown e f) z = simp f
seen-listed (a-reset e f g) z = let h = rw g at f in simp (g, h)
seen-listed (a-power e f g) z = let h = rw g at f in simp (g, h)
seen-listed (a-medium e f g) z = simp (f, g.0, g.1)

-- a value that a listed block has and no other has
pub of-listed : {A : Type 0} (value : Verdict → A) (other : A)
    → ((size : ℕ) → value (Reset size) ≡ other) × ((size mode : ℕ) → value (Power size mode) ≡ other)
    × ((size : ℕ) → value (Unknown size) ≡ other)
    → {row level : ℕ} {s : List ℕ} {b : Verdict} → SeenAs row level s b → number_of b ≡ 0
    → value b ≡ pick (is_listed row level s) (value (listed (kind_of row s) (size_of row s) (facts_of (kind_of row s) s))) other
unfolding is_listed pick
of-listed value other none_of (refused n e h) z = absurd (h z)
of-listed value other none_of (unknown e f) z = simp f (none_of.2 _)
of-listed value other none_of (a-reset e f g) z = let h = rw g at f in simp (g, h) (none_of.0 _)
of-listed value other none_of (a-power e f g) z = let h = rw g at f in simp (g, h) (none_of.1 _ _)
of-listed value other none_of (a-medium e f g) z = simp (f, g.0, g.1)

-- a flag of what is listed, which no reset and no power block has
flag-of-listed : (flag : Facts → Bool) → ((wrong : Bool) (mode : ℕ) → flag (sequence wrong mode) ≡ false) → (row level : ℕ) (s : List ℕ)
    → pick (is_listed row level s) (flag (facts_of (kind_of row s) s)) false
    ≡ (is_known level (kind_of row s) && flag (facts_of (kind_of row s) s))
unfolding is_listed facts_of pick
flag-of-listed flag none_of row level s = go (is_known level kind) (eqb kind 5) (eqb kind 6) (eqb-true kind 5) (eqb-true kind 6)
  where
    kind : ℕ
    kind = kind_of row s

    go : (k t u : Bool) → (t ≡ true → kind ≡ 5) → (u ≡ true → kind ≡ 6)
        → pick (k && not (t || u)) (flag (facts_of kind s)) false ≡ (k && flag (facts_of kind s))
    go false t u g h = refl
    go true true u g h = rw (g refl) (sym (none_of _ _))
    go true false true g h = rw (h refl) (sym (none_of _ _))
    go true false false g h = refl

pub seen-kind : {row level : ℕ} {s : List ℕ} {b : Verdict} → SeenAs row level s b → 0 < listed_in b → kind_in b ≡ kind_of row s
seen-kind (refused n e h) l = absurd (omega arith)
seen-kind (unknown e f) l = absurd (omega arith)
seen-kind (a-reset e f g) l = absurd (omega arith)
seen-kind (a-power e f g) l = absurd (omega arith)
seen-kind (a-medium e f g) l = refl

pub seen-mode : {row level : ℕ} {s : List ℕ} {b : Verdict} → SeenAs row level s b → number_of b ≡ 0
    → mode_in b ≡ pick (is_power row level s) (facts_of (kind_of row s) s).mode 0
unfolding is_power pick
seen-mode (refused n e h) z = absurd (h z)
seen-mode (unknown e f) z = simp f
seen-mode (a-reset e f g) z = let h = rw g at f in simp (g, h)
seen-mode (a-power e f g) z = let h = rw g at f in simp (g, h)
seen-mode (a-medium e f g) z = simp (f, g.1)

pub answers-refusal : AnswersRefusal
answers-refusal row level s =
    let v = seen_as row level s in
    (seen-number v, λ z. seen_size v (rw (seen-number v) z))

pub answers-entry : AnswersEntry
answers-entry row level s e =
    let v = seen_as row level s in
    let z = seen-number v ∙ e in
    (sym (seen-listed v z), of-listed kind_in 0 ((λ size. refl), (λ size mode. refl), (λ size. refl)) v z)

pub answers-medium : AnswersMedium
answers-medium row level s e =
    let v = seen_as row level s in
    let z = seen-number v ∙ e in (
      of-listed code_in none ((λ size. refl), (λ size mode. refl), (λ size. refl)) v z,
      of-listed capabilities_in 0 ((λ size. refl), (λ size mode. refl), (λ size. refl)) v z,
    )

pub answers-flags : AnswersFlags
unfolding is_default resets_a_phy sequence pick
answers-flags row level s e =
    let v = seen_as row level s in
    let z = seen-number v ∙ e in (
      of-listed invalid_in false ((λ size. refl), (λ size mode. refl), (λ size. refl)) v z ∙ go (is_listed row level s) _,
      of-listed default_in false ((λ size. refl), (λ size mode. refl), (λ size. refl)) v z
          ∙ flag-of-listed (λ f. f.is_default) (λ wrong mode. refl) row level s,
      of-listed phy_reset_in false ((λ size. refl), (λ size mode. refl), (λ size. refl)) v z
          ∙ flag-of-listed (λ f. f.resets_phy) (λ wrong mode. refl) row level s,
    )
  where
    go : (t x : Bool) → pick t x false ≡ (t && x)
    go true x = refl
    go false x = refl

pub answers-mode : AnswersMode
unfolding is_power facts_of sequence pick
answers-mode row level s e =
    let v = seen_as row level s in
    seen-mode v (seen-number v ∙ e) ∙ go (is_known level (kind_of row s)) (eqb (kind_of row s) 6) (eqb-true (kind_of row s) 6)
  where
    go : (k t : Bool) → (t ≡ true → kind_of row s ≡ 6)
        → pick (k && t) (facts_of (kind_of row s) s).mode 0 ≡ pick (k && t) (byte_at s 2) 0
    go true true h = rw (h refl)
    go true false h = refl
    go false t h = refl

-- a refusal, in each version
refused-answer : (n : ℕ) (b : Verdict) → (n ≡ 0 → ⊥) → answered n b ≡ Refused n
unfolding answered pick
refused-answer zero b h = absurd (h refl)
refused-answer (suc n) b h = rw (eqb-suc-zero n)

pub answers-refused : AnswersRefused
unfolding block_in block_of
answers-refused first row level n s h = ((λ e. rw e (refused-answer n _ h)), (λ e. rw e (refused-answer n _ h)))

-- an accepted block lies in the rest
pub fits : (row level : ℕ) (s : List ℕ) → refusal_of row level s ≡ 0 → size_of row s ≤ length s
unfolding refusal_of causes
fits row level s e = ltb-false (length s) (size_of row s) (none_here _ _ (lit< tt) e).0
