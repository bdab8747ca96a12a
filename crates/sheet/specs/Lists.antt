-- Lists of bytes: sums, padding, and a buffer with bytes at its front.
use Rattle.std.specs.Prelude.{ℕ, ◌+◌, ◌-◌, List, [], ◌∷◌, ◌++◌, length, drop, replicate}

unfoldable pub sum : List ℕ → ℕ
sum [] = 0
sum (x ∷ s) = x + sum s

-- the bytes, and zeros up to n of them
unfoldable pub padded : ℕ → List ℕ → List ℕ
padded n xs = xs ++ replicate (n - length xs) 0

-- the buffer with the bytes at its front, and its other bytes unchanged
unfoldable pub over : List ℕ → List ℕ → List ℕ
over buffer bytes = bytes ++ drop (length bytes) buffer
