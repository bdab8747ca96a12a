-- Whether characters stand where they belong, one after another, as a test of each with its place. Assumes nothing.
use Prim.Native.Nat.{ℕ, ◌+◌}
use mathlib.Core.Path.{◌≡◌, refl, ap}
use mathlib.Core.Bool.{◌&&◌}
use mathlib.Core.List.{List, [], ◌∷◌}
use Rattle.std.specs.List.{list_all, enumerate_from}
use Rattle.console.specs.Value.{is_in_place, are_in_place}

pub each_in_place : (place : ℕ) (s : List ℕ)
    → list_all (λ (p : ℕ × ℕ). is_in_place p.0 p.1) (enumerate_from place s) ≡ are_in_place place s
unfolding are_in_place
each_in_place place [] = refl
each_in_place place (c ∷ cs) = ap (λ t. is_in_place place c && t) (each_in_place (place + 1) cs)
