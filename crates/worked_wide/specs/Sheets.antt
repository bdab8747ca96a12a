-- Wide sheets: one spelled out, and those of a 21041 by the number of their blocks.
use Rattle.std.specs.Prelude.{ℕ, zero, suc, ◌+◌, ◌*◌, List, [], ◌∷◌, ◌++◌, take, drop, replicate}
use Rattle.rom.specs.Store.{word_bytes}
use Rattle.worked.specs.Sheets.{case21041}

-- case21143's, its three blocks and their twelve bytes stated as words
unfoldable pub wide21143 : List ℕ
wide21143 =
    3 ∷ 0 ∷ 12 ∷ 0
    ∷ 0x11 ∷ 0x22 ∷ 0x33 ∷ 0x44 ∷ 0x55 ∷ 0x66 ∷ 0x77 ∷ 0x88 ∷ 0 ∷ 0 ∷ 0 ∷ 0 ∷ 0 ∷ 0 ∷ 0x99 ∷ 0xAA ∷ 0xBB
    ∷ 4 ∷ 0 ∷ 0 ∷ 0xF8 ∷ 1 ∷ 2 ∷ 3 ∷ 5
    ∷ 0x97 ∷ 0x52 ∷ 0 ∷ 8 ∷ 0 ∷ 0xCC ∷ 0xDD
    ∷ 2 ∷ 0 ∷ 9 ∷ 0 ∷ 4 ∷ 0
    ∷ 5 ∷ 0 ∷ 7
    ∷ 0 ∷ 1 ∷ 0 ∷ 2 ∷ 0
    ∷ 3 ∷ 0x10 ∷ 0 ∷ 0x20 ∷ 0 ∷ 0x61 ∷ 0x40 ∷ []

-- 21041 blocks of seven bytes
unfoldable pub with_ext : ℕ → List ℕ
with_ext zero = []
with_ext (suc n) = 0x41 ∷ 1 ∷ 2 ∷ 3 ∷ 4 ∷ 5 ∷ 6 ∷ with_ext n

-- so many blocks of one byte and then so many of seven, behind case21041's head
unfoldable pub wide_long : ℕ → ℕ → List ℕ
wide_long n k =
    word_bytes (n + k) ++ (word_bytes (n + 7 * k) ++ (drop 2 (take 34 case21041.sheet) ++ (replicate (2 * (n + k)) 1
    ++ (replicate n 1 ++ (replicate k 7 ++ (replicate n 2 ++ with_ext k))))))
