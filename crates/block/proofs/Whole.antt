-- What `block_of` comes to, by the form of the block and the tests that a reader makes. Assumes nothing.
use Prim.Native.Nat.{ℕ, ◌+◌, ◌%◌, ◌≤◌, ◌<◌}
use native.Mathlib.Omega.{arith}
use mathlib.Core.Path.{◌≡◌, refl, sym, ◌∙◌}
use mathlib.Core.Bool.{Bool, true, false, ◌&&◌}
use mathlib.Core.List.{List}
use lib.Dec.{eqb}
use lib.ListN.{length}
use borrow.Author.Tests.{ne_eqb, lt-ltb, le-ltb, le-leb, lt-leb}
use Rattle.rom.specs.Bytes.{pick, bit, byte_at}
use Rattle.rom.specs.Refusal.{first_met}
use Rattle.block.specs.Answer.{Verdict}
use Rattle.block.specs.Answer.{Unknown, Refused}
use Rattle.format.specs.Chips.{row21041, kind_compact, kind21041, newest_level, is_permitted}
use Rattle.format.specs.Block.{is21041, is_extended, length_of, sia_size, size_of, kind_of, is_known, causes, refusal_of}
use Rattle.block.specs.Inside.{judged, judged_as}
use Rattle.block.specs.Answer.{answered, block_of}
use Rattle.block.specs.Claims.{OnlyKnown}
use Rattle.format.proofs.Chips.{permitted-type}

-- whether a block is extended, its kind and its size, as its first bytes say
pub record BlockForm (row : ℕ) (s : List ℕ) (extended : Bool) (kind size : ℕ) : Type 0 where
  pub is-extended : is_extended row s ≡ extended
  pub is-kind : kind_of row s ≡ kind
  pub is-size : size_of row s ≡ size

module _ (row : ℕ) (s : List ℕ) where
  pub extended-form : (row ≡ row21041 → ⊥) → 128 ≤ byte_at s 0 → BlockForm row s true (byte_at s 1) (1 + length_of s)
  unfolding is_extended kind_of size_of pick
  extended-form h g =
      let e = ne_eqb row row21041 h in
      let f = le-leb 128 (byte_at s 0) g in
      record { is-extended = simp (e, f); is-kind = simp (e, f); is-size = simp (e, f) }

  pub compact-form : (row ≡ row21041 → ⊥) → byte_at s 0 < 128 → BlockForm row s false kind_compact 4
  unfolding is_extended kind_of size_of pick
  compact-form h g =
      let e = ne_eqb row row21041 h in
      let f = lt-leb 128 (byte_at s 0) g in
      record { is-extended = simp (e, f); is-kind = simp (e, f); is-size = simp (e, f) }

pub form-21041 : (s : List ℕ) → BlockForm row21041 s false kind21041 (sia_size (byte_at s 0))
unfolding is_extended kind_of size_of pick
form-21041 s = record { is-extended = refl; is-kind = refl; is-size = refl }

module _ (level : ℕ) {row : ℕ} {s : List ℕ} {extended : Bool} {kind size : ℕ} (form : BlockForm row s extended kind size) where
  pub past_end : length s < size → Refused 13 ≡ block_of row level s
  unfolding block_of refusal_of causes first_met answered pick
  past_end h = simp (form.is-size, lt-ltb (length s) size h)

  module _ (fits : size ≤ length s) where
    pub no_length : extended ≡ true → length_of s ≡ 0 → Refused 14 ≡ block_of row level s
    unfolding block_of refusal_of causes first_met answered pick
    no_length e z = simp (form.is-size, le-ltb (length s) size fits, form.is-extended, e, z)

    module _ (some : (extended && eqb (length_of s) 0) ≡ false) where
      pub unknown : is_known level kind ≡ false → Unknown size ≡ block_of row level s
      unfolding block_of refusal_of causes first_met answered pick
      unknown k = simp (form.is-size, le-ltb (length s) size fits, form.is-extended, form.is-kind, some, k)

      pub not-permitted : is_known level kind ≡ true → is_permitted row kind ≡ false → Refused 14 ≡ block_of row level s
      unfolding block_of refusal_of causes first_met answered pick
      not-permitted k p = simp (form.is-size, le-ltb (length s) size fits, form.is-extended, form.is-kind, some, k, p)

      pub by-fields : is_known level kind ≡ true → is_permitted row kind ≡ true → judged_as kind size s ≡ block_of row level s
      unfolding block_of refusal_of causes first_met answered pick judged_as judged
      by-fields k p = simp (form.is-size, le-ltb (length s) size fits, form.is-extended, form.is-kind, some, k, p)

-- compact and 21041 blocks are known at every level, a type where it is below the level
pub known-form : (level kind : ℕ) → kind_compact ≤ kind → is_known level kind ≡ true
unfolding is_known
known-form level kind h = simp (le-leb kind_compact kind h)

pub known-type : (level kind : ℕ) → kind < kind_compact → kind < level → is_known level kind ≡ true
unfolding is_known
known-type level kind h g = simp (lt-leb kind_compact kind h, lt-ltb kind level g)

pub unknown-type : (level kind : ℕ) → kind < kind_compact → level ≤ kind → is_known level kind ≡ false
unfolding is_known
unknown-type level kind h g = simp (lt-leb kind_compact kind h, le-ltb kind level g)

-- The steps of `judge_extended` in its own terms.
module _ (level row : ℕ) (s : List ℕ) {len : ℕ} (other : row ≡ row21041 → ⊥) (high : 128 ≤ byte_at s 0) (e : len ≡ length_of s) where
  pub extended-past-end : length s ≤ len → Refused 13 ≡ block_of row level s
  extended-past-end h = past_end level (extended-form row s other high) (omega arith)

  module _ (fits : len < length s) where
    pub extended-empty : len ≡ 0 → Refused 14 ≡ block_of row level s
    extended-empty z = no_length level (extended-form row s other high) (omega arith) refl (sym e ∙ z)

    module _ (some : len ≡ 0 → ⊥) (byte : byte_at s 1 < 256) where
      pub extended-unknown : level ≤ byte_at s 1 → Unknown (1 + len) ≡ block_of row level s
      extended-unknown h =
          rw e
          (unknown level (extended-form row s other high) (omega arith) (ne_eqb (length_of s) 0 (λ z. some (e ∙ z)))
          (unknown-type level _ byte h))

      module _ (h : byte_at s 1 < level) {p : Bool} (ep : p ≡ is_permitted row (byte_at s 1)) where
        pub extended-not-permitted : p ≡ false → Refused 14 ≡ block_of row level s
        extended-not-permitted g =
            not-permitted level (extended-form row s other high) (omega arith) (ne_eqb (length_of s) 0 (λ z. some (e ∙ z)))
            (known-type level _ byte h) (sym ep ∙ g)

        pub extended-type : p ≡ true → byte_at s 1 < newest_level
        extended-type g = permitted-type row (byte_at s 1) (sym ep ∙ g) byte

        pub extended-fields : {b : Verdict} → p ≡ true → b ≡ judged_as (byte_at s 1) (1 + len) s → b ≡ block_of row level s
        extended-fields g eb =
            rw e at eb
            ∙ by-fields level (extended-form row s other high) (omega arith) (ne_eqb (length_of s) 0 (λ z. some (e ∙ z)))
            (known-type level _ byte h) (sym ep ∙ g)

-- a block takes at least a byte
pub size-positive : (row : ℕ) (s : List ℕ) → 1 ≤ size_of row s
unfolding size_of sia_size pick
size-positive row s = go (is21041 row) (bit 6 (byte_at s 0)) (is_extended row s)
  where
    go : (t u v : Bool) → ◌≤◌ 1 (pick t (pick u 7 1) (pick v (1 + length_of s) 4))
    go true true v = omega arith
    go true false v = omega arith
    go false u true = omega arith
    go false u false = omega arith

-- an extended block's length has seven bits
pub size_small : (row : ℕ) (s : List ℕ) → size_of row s ≤ 128
unfolding size_of sia_size length_of pick
size_small row s = go (is21041 row) (bit 6 (byte_at s 0)) (is_extended row s)
  where
    go : (t u v : Bool) → pick t (pick u 7 1) (pick v (1 + byte_at s 0 % 128) 4) ≤ 128
    go true true v = omega arith
    go true false v = omega arith
    go false u true = omega arith
    go false u false = omega arith

-- the causes and the case take the level only as what it knows
pub only-known : OnlyKnown
unfolding block_of refusal_of causes
only-known row older newest s e = rw e
