-- Laws of words, zeros and parts of lists. Assumes nothing.
use Prim.Native.Nat.{ℕ, zero, suc, ◌+◌, ◌*◌, ◌/◌, ◌%◌, ◌≤◌, ◌<◌}
use mathlib.Core.Path.{◌≡◌, refl, sym, ap, ap₂, ◌∙◌}
use mathlib.Core.Bool.{true}
use mathlib.Core.List.{List, [], ◌∷◌}
use native.Mathlib.Omega.{arith}
use lib.ListN.{length, take, drop, replicate}
use lib.Seq.{drop-cons, get_or-drop, take_all}
use borrow.Author.Tests.{eqb-true}
use Rattle.rom.specs.Bytes.{byte_at, Bytes, all_zero}
use Rattle.rom.specs.Store.{word_bytes}
use Rattle.rom.proofs.Truth.{and-true}

-- ## Words

pub word_of : (n : ℕ) → n % 256 + 256 * (n / 256) ≡ n
word_of n = omega arith

pub word_back : (a b : ℕ) → a < 256 → word_bytes (a + 256 * b) ≡ a ∷ b ∷ []
unfolding word_bytes
word_back a b h =
    let low : (a + 256 * b) % 256 ≡ a = omega arith in
    let high : (a + 256 * b) / 256 ≡ b = omega arith in
    ap₂ (λ (x y : ℕ). x ∷ y ∷ []) low high

-- ## Zeros

all-zeros : (s : List ℕ) → all_zero s ≡ true → s ≡ replicate (length s) 0
unfolding all_zero
all-zeros [] e = refl
all-zeros (x ∷ s) e = let h = and-true _ _ e in ap₂ (λ (y : ℕ) (l : List ℕ). y ∷ l) (eqb-true x 0 h.0) (all-zeros s h.1)

pub zeros-are : (n : ℕ) (s : List ℕ) → all_zero s ≡ true → length s ≡ n → s ≡ replicate n 0
zeros-are n s z l = all-zeros s z ∙ ap (λ (k : ℕ). replicate k 0) l

pub zeros-all : (n : ℕ) → all_zero (replicate n 0) ≡ true
unfolding all_zero
zeros-all zero = refl
zeros-all (suc n) = zeros-all n

-- ## Bytes

pub bytes_drop : (n : ℕ) (s : List ℕ) → Bytes s → Bytes (drop n s)
bytes_drop n s h i = rw get_or-drop (h (n + i))

pub bytes_take : (n : ℕ) (s : List ℕ) → Bytes s → Bytes (take n s)
bytes_take zero s h i = omega arith
bytes_take (suc n) [] h i = omega arith
bytes_take (suc n) (x ∷ s) h zero = h 0
bytes_take (suc n) (x ∷ s) h (suc i) = bytes_take n s (λ j. h (suc j)) i

-- ## Lists of a known length, spelled out

-- n bytes from byte k on, one by one
unfoldable pub spell : ℕ → ℕ → List ℕ → List ℕ
spell k zero s = []
spell k (suc n) s = byte_at s k ∷ spell (suc k) n s

pub spelled : (k n : ℕ) (s : List ℕ) → k + n ≤ length s → take n (drop k s) ≡ spell k n s
unfolding spell
spelled k zero s h = refl
spelled k (suc n) s h =
    ap (take (suc n)) (drop-cons s k 0 (omega arith)) ∙ ap (λ (l : List ℕ). byte_at s k ∷ l) (spelled (suc k) n s (omega arith))

pub spelled-whole : (n : ℕ) (s : List ℕ) → length s ≡ n → s ≡ spell 0 n s
spelled-whole n s h = sym (take_all n s (omega arith)) ∙ spelled 0 n s (omega arith)
