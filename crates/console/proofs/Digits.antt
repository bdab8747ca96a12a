-- Each hexadecimal digit makes a value sixteen times as large at most: by induction over them. Assumes nothing.
use Prim.Native.Nat.{ℕ, suc, ◌+◌, ◌*◌, ◌%◌, ◌^◌, ◌<◌, ◌≤◌}
use mathlib.Core.Path.{◌≡◌, refl, sym}
use mathlib.Core.Bool.{Bool, true, false, not, ◌&&◌}
use mathlib.Core.List.{List, [], ◌∷◌}
use lib.Dec.{eqb, leb, ltb}
use lib.ListN.{length}
use Rattle.std.proofs.Common.{arith}
use Rattle.std.proofs.lemmas.Bool.{and_parts, ltb-true, leb-true, eqb-true}
use Rattle.std.proofs.Math.Nat.{mod-le, mul_assoc, pow-succ', pow-le-pow_right}
use Rattle.rom.specs.Bytes.{pick}
use Rattle.text.specs.Numbers.{digit_of}
use Rattle.hexadecimal.specs.Offset.{is_of, run_of, value_from, value_of}
use Rattle.console.specs.Value.{spells_word}

first_digit : (c : ℕ) (cs : List ℕ) → run_of true (c ∷ cs) ≡ length (c ∷ cs) → (digit_of c < 16) × (run_of true cs ≡ length cs)
unfolding run_of is_of pick
first_digit c cs h = go (ltb (digit_of c) 16) refl h
  where
    go : (t : Bool) → ltb (digit_of c) 16 ≡ t → pick t (suc (run_of true cs)) 0 ≡ suc (length cs)
        → (digit_of c < 16) × (run_of true cs ≡ length cs)
    go true e h = (ltb-true (digit_of c) 16 e, omega arith)
    go false e h = absurd (omega arith)

value_below : (s : List ℕ) (value bound : ℕ) → run_of true s ≡ length s → value < bound → value_from value s < bound * 16 ^ length s
unfolding value_from
value_below [] value bound h b = omega arith
value_below (c ∷ cs) value bound h b =
    let d = first_digit c cs h in
    let m = mod-le value 0x10000000 in
    let e : bound * 16 ^ suc (length cs) ≡ (bound * 16) * 16 ^ length cs
    = rw (pow-succ' 16 (length cs)) (sym (mul_assoc bound 16 (16 ^ length cs))) in
    rw e (value_below cs (16 * (value % 0x10000000) + digit_of c) (bound * 16) d.1 (omega (arith, d.0)))

-- the value of up to four digits is a word
pub word_small : (s : List ℕ) → spells_word s ≡ true → value_of s < 65536
unfolding spells_word
word_small s h =
    let p = and_parts (not (eqb (length s) 0) && leb (length s) 4) (eqb (run_of true s) (length s)) h in
    let few : length s ≤ 4 = leb-true (length s) 4 (and_parts (not (eqb (length s) 0)) (leb (length s) 4) p.0).1 in
    let v = value_below s 0 1 (eqb-true (run_of true s) (length s) p.1) (omega arith) in
    let most : 16 ^ length s ≤ 16 ^ 4 = pow-le-pow_right (omega arith) few in omega arith
