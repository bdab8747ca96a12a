-- The cases compute. Assumes nothing.
use mathlib.Core.Path.{refl}
use Rattle.packet.specs.Cases.{run_magic, over_ones, magic_cases}
use Rattle.packet.specs.Claims.{MagicWorked}
use Rattle.packet.proofs.Computes.{magic-computes}

pub magic-worked : MagicWorked
unfolding magic-computes run_magic over_ones magic_cases
magic-worked = (refl, refl, refl, refl)
