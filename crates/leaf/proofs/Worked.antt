-- The cases compute. Assumes nothing.
use mathlib.Core.Path.{refl}
use Rattle.leaf.specs.Leaf.{place_by_stepping, running_start}
use Rattle.leaf.specs.Cases.{image_around, first_block_at, blocks_of, run_in, paper_cases, further_cases, power_cases, first_cases}
use Rattle.leaf.specs.Cases.{starts_from, run_stepped, run_kept, starts_cases}
use Rattle.leaf.specs.Claims.{LeavesWorked, PowersWorked, FirstWorked, StartsWorked}
use Rattle.leaf.proofs.Computes.{leaf-computes}

pub leaves-worked : LeavesWorked
unfolding leaf-computes image_around first_block_at blocks_of run_in paper_cases further_cases
leaves-worked = refl

pub powers-worked : PowersWorked
unfolding leaf-computes image_around first_block_at blocks_of run_in power_cases
powers-worked = refl

pub first-worked : FirstWorked
unfolding leaf-computes image_around first_block_at blocks_of run_in first_cases
first-worked = refl

pub starts-worked : StartsWorked
unfolding leaf-computes place_by_stepping running_start first_block_at starts_from run_stepped run_kept starts_cases
starts-worked = (refl, refl)
