-- What the contracts of inner functions cite: a register that shifts right, its bits in reverse.
use Rattle.std.specs.Prelude.{List, [], ◌∷◌, ℕ, zero, suc, ◌/◌, ◌%◌}
use Rattle.std.specs.Int.Bits.{bit_xor}
use Rattle.checksum.specs.Crc.{xor_if}

-- the SROM polynomial's 32 bits in reverse
abbrev pub reflected : ℕ
reflected = 0xEDB88320

-- one step: the lowest bit is taken
unfoldable pub turn : ℕ → ℕ → ℕ
unfolding xor_if
turn p x = xor_if (x % 2) p (x / 2)

unfoldable pub turns : ℕ → ℕ → ℕ → ℕ
unfolding turn
turns p zero x = x
turns p (suc n) x = turns p n (turn p x)

-- n data bits, lowest first
unfoldable pub bits_in : ℕ → ℕ → ℕ → ℕ → ℕ
unfolding turn
bits_in p zero r x = r
bits_in p (suc n) r x = bits_in p n (turn p (bit_xor r (x % 2))) (x / 2)

unfoldable pub bytes_in : ℕ → ℕ → List ℕ → ℕ
unfolding bits_in
bytes_in p r [] = r
bytes_in p r (x ∷ xs) = bytes_in p (bits_in p 8 r x) xs
