-- The mode bits that `judge` keeps: those that a block passed sets, and those that two of them set. Assumes nothing.
use Prim.Native.Nat.{ℕ, zero, suc, ◌+◌, ◌/◌, ◌%◌, ◌^◌, ◌<◌}
use native.Mathlib.Omega.{arith}
use native.Mathlib.Nat.{div-eq_of_lt, zero-add}
use mathlib.Core.List.{List, [], ◌∷◌}
use mathlib.Core.Path.{◌≡◌, refl, ap, sym, ◌∙◌}
use mathlib.Core.Bool.{Bool, true, false, ◌||◌, ◌&&◌, not}
use lib.Dec.{eqb, ltb, lit<}
use lib.Pow.{pow_pos}
use borrow.Author.Tests.{lt-ltb}
use lib.Bits.{bit_and, bit_or, and_shr, or_shr, and_mod, or_mod, and_lt, or_lt}
use Rattle.rom.specs.Bytes.{pick, one, bit, any_below}
use Rattle.rom.proofs.Below.{below, same, same-equal, any_same}
use Rattle.block.specs.Answer.{Verdict}
use Rattle.block.specs.Answer.{number_of, mode_in}
use Rattle.block.proofs.Seen.{SeenAs, seen-mode}
use Rattle.format.specs.Block.{kind_of, facts_of, is_power, sets_mode}
use Rattle.leaf.specs.Leaf.{count_of, mode_cause}

-- ## Bits of a byte

bit-zero : (k : ℕ) → bit k 0 ≡ false
unfolding bit
bit-zero k = rw (div-eq_of_lt (pow_pos k))

-- an operation that shifts and cuts do not disturb goes bit by bit, as it does on 0 and 1
module _ (op : ℕ → ℕ → ℕ) (f : Bool → Bool → Bool)
    (shifted : (a b k : ℕ) → op a b / 2 ^ k ≡ op (a / 2 ^ k) (b / 2 ^ k))
    (lowest : (a b k : ℕ) → op a b % 2 ^ k ≡ op (a % 2 ^ k) (b % 2 ^ k))
    (at-00 : eqb (op 0 0) 1 ≡ f false false) (at-01 : eqb (op 0 1) 1 ≡ f false true)
    (at-10 : eqb (op 1 0) 1 ≡ f true false) (at-11 : eqb (op 1 1) 1 ≡ f true true) where
  one_bit : (u v : ℕ) → u < 2 → v < 2 → eqb (op u v) 1 ≡ f (eqb u 1) (eqb v 1)
  one_bit zero zero g h = at-00
  one_bit zero (suc zero) g h = at-01
  one_bit zero (suc (suc v)) g h = absurd (omega arith)
  one_bit (suc zero) zero g h = at-10
  one_bit (suc zero) (suc zero) g h = at-11
  one_bit (suc zero) (suc (suc v)) g h = absurd (omega arith)
  one_bit (suc (suc u)) v g h = absurd (omega arith)

  bit-by-bit : (k a b : ℕ) → bit k (op a b) ≡ f (bit k a) (bit k b)
  unfolding bit
  bit-by-bit k a b =
      ap (λ (n : ℕ). eqb (n % 2) 1) (shifted a b k) ∙ ap (λ (n : ℕ). eqb n 1) (lowest (a / 2 ^ k) (b / 2 ^ k) 1)
      ∙ one_bit (a / 2 ^ k % 2) (b / 2 ^ k % 2) (omega arith) (omega arith)

bit-or : (k a b : ℕ) → bit k (bit_or a b) ≡ (bit k a || bit k b)
bit-or = bit-by-bit bit_or (λ a b. a || b) or_shr or_mod refl refl refl refl

bit-and : (k a b : ℕ) → bit k (bit_and a b) ≡ (bit k a && bit k b)
bit-and = bit-by-bit bit_and (λ a b. a && b) and_shr and_mod refl refl refl refl

-- a byte is 0 where it has no bit, computed for each
some-bit : (x : ℕ) → x < 256 → any_below (λ k. bit k x) 8 ≡ not (eqb x 0)
unfolding any_below bit
some-bit x h =
    same-equal (any_below (λ k. bit k x) 8) (not (eqb x 0)) (below (λ x. same (any_below (λ k. bit k x) 8) (not (eqb x 0))) 256 tt x h)

-- ## What the loop keeps

-- two blocks set a bit, where one of those passed does or not, two of them do or not, and so many of those left do
abbrev twice : Bool → Bool → ℕ → Bool
twice seen again left = again || seen && ltb 0 left || ltb 1 left

pub record Modes (row level : ℕ) (whole bs : List (List ℕ)) (modes repeated : ℕ) : Type 0 where
  pub small : (modes < 256) × (repeated < 256)
  pub bits : (k : ℕ)
      → twice (bit k modes) (bit k repeated) (count_of (sets_mode row level k) bs) ≡ ltb 1 (count_of (sets_mode row level k) whole)

pub modes-start : (row level : ℕ) (bs : List (List ℕ)) → Modes row level bs bs 0 0
modes-start row level bs = record { small = (lit< tt, lit< tt); bits = λ k. rw bit-zero }

pub modes-more : {row level : ℕ} {whole bs : List (List ℕ)} {s : List ℕ} {modes repeated m : ℕ}
    → Modes row level whole (s ∷ bs) modes repeated → m < 256 → ((k : ℕ) → bit k m ≡ sets_mode row level k s)
    → Modes row level whole bs (bit_or modes m) (bit_or repeated (bit_and modes m))
unfolding count_of
modes-more {row} {level} {whole} {bs} {s} {modes} {repeated} {m} t h e = record {
  small = (or_lt 8 modes m t.small.0 h, or_lt 8 repeated (bit_and modes m) t.small.1 (and_lt 8 modes m t.small.0 h));
  bits = λ k. rw (bit-or k modes m, bit-or k repeated (bit_and modes m), bit-and k modes m, e k)
      (one_more (bit k modes) (bit k repeated) (sets_mode row level k s) (count_of (sets_mode row level k) bs) ∙ t.bits k);
}
  where
    one_more : (a r b : Bool) (n : ℕ) → twice (a || b) (r || a && b) n ≡ twice a r (one b + n)
    one_more a true b n = refl
    one_more true false true n = rw (lt-ltb 0 (1 + n) (omega arith))
    one_more true false false n = rw zero-add
    one_more false false false n = rw zero-add
    one_more false false true zero = refl
    one_more false false true (suc n) = rw (lt-ltb 0 (suc n) (omega arith), lt-ltb 1 (1 + suc n) (omega arith))

-- at the end what is repeated says whether 31 is met
pub modes-end : {row level : ℕ} {whole : List (List ℕ)} {modes repeated : ℕ} → Modes row level whole [] modes repeated
    → not (eqb repeated 0) ≡ (mode_cause row level whole).met
unfolding count_of mode_cause
modes-end {row} {level} {whole} {modes} {repeated} t =
    sym (some-bit repeated t.small.1) ∙ any_same _ _ 8 (λ k. sym (go (bit k modes) (bit k repeated)) ∙ t.bits k)
  where
    go : (a r : Bool) → twice a r 0 ≡ r
    go true true = refl
    go true false = refl
    go false true = refl
    go false false = refl

-- ## The mode of the block that is judged

pub mode-bit : {row level : ℕ} {s : List ℕ} {b : Verdict} → SeenAs row level s b → number_of b ≡ 0 → (k : ℕ)
    → bit k (mode_in b) ≡ sets_mode row level k s
unfolding sets_mode pick
mode-bit {row} {level} {s} v z k = ap (bit k) (seen-mode v z) ∙ go (is_power row level s) (facts_of (kind_of row s) s).mode
  where
    go : (p : Bool) (m : ℕ) → bit k (pick p m 0) ≡ (p && bit k m)
    go true m = refl
    go false m = bit-zero k
