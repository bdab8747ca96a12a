-- Bytes and words laid into others from a place on.
use Rattle.std.specs.Prelude.{ℕ, ◌+◌, ◌/◌, ◌%◌, List, [], ◌∷◌, ◌++◌, length, take, drop, leb}
use Rattle.rom.specs.Bytes.{pick}

-- the two bytes of a word, low byte first
unfoldable pub word_bytes : ℕ → List ℕ
word_bytes n = n % 256 ∷ n / 256 ∷ []

-- xs with ys from a place on
unfoldable pub put : List ℕ → ℕ → List ℕ → List ℕ
put xs at ys = take at xs ++ (ys ++ drop (at + length ys) xs)

-- the same where ys fit, and xs where they do not
unfoldable pub laid : List ℕ → ℕ → List ℕ → List ℕ
laid xs at ys = pick (leb (at + length ys) (length xs)) (put xs at ys) xs
