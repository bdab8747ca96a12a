-- The tables hold what eight steps make of each byte. Assumes nothing.
use Rattle.std.proofs.Common.{◌≡◌, ℕ, ◌<◌, ◌%◌, ◌/◌, List, map, get_or, refl, sym, ap, ◌∙◌, arith}
use Rattle.std.specs.Int.Bits.{bit_xor}
use Rattle.std.specs.List.{range_with_len}
use Rattle.std.proofs.lemmas.List.FromFn.{get_or-map-range_with_len}
use lib.Bits.{xor_lt}
use Rattle.checksum.specs.Crc.{crc8_bits}
use Rattle.checksum.proofs.Xor.{xor_assoc}
use Rattle.checksum.proofs.Eight.{byte-at-once}
use Rattle.crc.specs.Inside.{reflected, turns}
use Rattle.crc.proofs.Turns.{by-table}
use Rattle.crc.specs.declared.crc8.TheConstants as crc8
use Rattle.crc.specs.declared.srom.TheConstants as srom

at : (k : ℕ) → k < 256 → (f : ℕ → ℕ) {xs : List ℕ} → xs ≡ map f (range_with_len 0 256) → get_or xs k 0 ≡ f k
at k h f e = ap (λ t. get_or t k 0) e ∙ get_or-map-range_with_len f 0 256 k k 0 h (omega arith)

pub byte_fed : (r x : ℕ) → r < 256 → x < 256 → get_or crc8.TABLE (bit_xor r x) 0 ≡ crc8_bits 8 r x
unfolding crc8_bits
byte_fed r x hr hx = at (bit_xor r x) (xor_lt 8 r x hr hx) (λ r. crc8_bits 8 r 0) refl ∙ sym (byte-at-once r x hr hx)

pub eight_at_once : (mixed next : ℕ)
    → bit_xor (get_or srom.TABLE (mixed % 256) 0) (bit_xor (mixed / 256) next) ≡ bit_xor (turns reflected 8 mixed) next
unfolding turns
eight_at_once mixed next =
    ap (λ (e : ℕ). bit_xor e (bit_xor (mixed / 256) next)) (at (mixed % 256) (omega arith) (turns reflected 8) refl)
    ∙ sym (xor_assoc (turns reflected 8 (mixed % 256)) (mixed / 256) next)
    ∙ ap (λ (x : ℕ). bit_xor x next) (sym (by-table reflected 8 mixed))
