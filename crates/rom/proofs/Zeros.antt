-- Whether all bytes are 0, as std tests a whole list. Assumes nothing.
use Rattle.std.specs.Prelude.{ℕ, ◌≡◌, ◌==◌, ◌&&◌, List, [], ◌∷◌, eqb}
use Rattle.std.specs.List.{list_all}
use mathlib.Core.Path.{refl, ap}
use Rattle.rom.specs.Bytes.{all_zero}

pub zero-all : (xs : List ℕ) → all_zero xs ≡ list_all (λ x. x == 0) xs
unfolding all_zero
zero-all [] = refl
zero-all (x ∷ xs) = ap (λ more. eqb x 0 && more) (zero-all xs)
