-- The ID CRC reads no further than it covers. Assumes nothing.
use Prim.Native.Nat.{ℕ, ◌≤◌}
use mathlib.Core.Path.{◌≡◌}
use mathlib.Core.List.{List, ◌++◌}
use native.Mathlib.Omega.{arith}
use lib.ListN.{length, get_or-append}
use Rattle.checksum.specs.Crc.{id_crc}
use Rattle.checksum.proofs.Eight.{crc8-same}

-- it covers bytes 0 to 15 and 17
pub id-covers-front : (xs ys : List ℕ) → 18 ≤ length xs → id_crc (xs ++ ys) ≡ id_crc xs
unfolding id_crc
id-covers-front xs ys h =
    crc8-same (xs ++ ys) xs 8 0 (λ i g l. get_or-append xs ys 0 i (omega arith)) (get_or-append xs ys 0 17 (omega arith))
