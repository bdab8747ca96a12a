-- Bytes beside bytes.
use Rattle.std.specs.Prelude.{ℕ, Bool, List}
use Rattle.std.specs.Str.{bytes_eq}

-- whether two lists have the same bytes, and as many
unfoldable pub same_bytes : List ℕ → List ℕ → Bool
same_bytes xs ys = bytes_eq xs ys
