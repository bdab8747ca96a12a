-- Past the end every byte and every word is 0. Assumes nothing.
use mathlib.Core.Path.{◌≡◌, sym}
use mathlib.Core.List.{List}
use Prim.Native.Nat.{ℕ, ◌+◌, ◌≤◌}
use native.Mathlib.Omega.{arith}
use lib.ListN.{length, get_or-eq_default}
use Rattle.rom.specs.Bytes.{byte_at, word_at}

pub byte_past : (s : List ℕ) (i : ℕ) → length s ≤ i → 0 ≡ byte_at s i
byte_past s i h = sym (get_or-eq_default s 0 h)

pub word-past : (s : List ℕ) (i : ℕ) → length s ≤ i → 0 ≡ word_at s i
unfolding word_at
word-past s i h = let next : length s ≤ i + 1 = omega arith in rw (← byte_past s i h, ← byte_past s (i + 1) next)
