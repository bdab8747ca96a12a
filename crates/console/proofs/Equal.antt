-- `==` at bytes says the same from either side. Assumes nothing.
use Prim.Native.Nat.{ℕ}
use mathlib.Core.Path.{◌≡◌, sym}
use mathlib.Core.List.{List}
use Rattle.std.specs.Str.{bytes_eq}
use Rattle.std.proofs.lemmas.Bool.Decides.{same_from_decides}
use Rattle.std.proofs.lemmas.Slice.Eq.{bytes_eq-Decides}
use Rattle.text.specs.Slices.{same_bytes}

pub same_from_right : (a b : List ℕ) → bytes_eq b a ≡ same_bytes a b
unfolding same_bytes
same_from_right a b =
    same_from_decides (bytes_eq b a) (bytes_eq a b)
    (λ e. sym ((bytes_eq-Decides b a).0 e), λ e. (bytes_eq-Decides b a).1 (sym e))
    (bytes_eq-Decides a b)
