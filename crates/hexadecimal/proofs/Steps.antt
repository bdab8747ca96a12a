-- Passes over a text, character by character: what is found of the rest is found of the whole. Assumes nothing.
use Rattle.std.proofs.Common.{◌≡◌, ℕ, suc, ◌+◌, ◌-◌, ◌<◌, Bool, true, false, List, [], ◌∷◌, cond, refl, sym, ap, arith}
use Rattle.std.specs.List.{prefix_len}
use Rattle.rom.specs.Bytes.{pick, byte_at}
use Rattle.hexadecimal.specs.Offset.{is_of, run_of}
use Rattle.hexadecimal.specs.Held.{pushed, repeated_from}
use Rattle.hexadecimal.specs.declared.held.Held.{Held}

-- a run, as std counts it
pub run-prefix : (digits : Bool) (s : List ℕ) → prefix_len (is_of digits) s ≡ run_of digits s
unfolding run_of pick
run-prefix digits [] = refl
run-prefix digits (c ∷ cs) = go (is_of digits c) (run-prefix digits cs)
  where
    go : (t : Bool) → prefix_len (is_of digits) cs ≡ run_of digits cs
        → cond t (1 + prefix_len (is_of digits) cs) 0 ≡ pick t (suc (run_of digits cs)) 0
    go true e = omega arith
    go false e = refl

-- one byte of a repeat
pub repeat-more : (at n : ℕ) (h : Held) → 0 < n
    → repeated_from (at + 1) (n - 1) (pushed (byte_at h.bytes.items at) h) ≡ repeated_from at n h
unfolding repeated_from
repeat-more at n h l = let e : n ≡ suc (n - 1) = omega arith in sym (ap (λ k. repeated_from at k h) e)
