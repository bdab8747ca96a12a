-- The definitions of a look, and those of a leaf's rows, opened together for what computes: `unfolding look-computes`,
-- `unfolding rows-compute`.
use Rattle.rom.specs.Bytes.{pick, is_in, any_below}
use Rattle.rom.specs.Refusal.{first_met}
use Rattle.format.specs.Chips.{taken_as}
use Rattle.leaf.proofs.Computes.{leaf-computes}
use Rattle.walk.specs.Walk.{every_look, once, way_of, flag_at, last_below, stays, is_candidate, first_up, up_in, sensed, fixed_block}
use Rattle.walk.specs.Walk.{chosen, switched, stepped, bad_report, look_causes, walked_to, look_for, is_capable, has_medium}
use Rattle.walk.specs.Walk.{is_invalid, is_fixed_medium, flags, rows_of}

unfoldable pub look-computes : Unit {0}
unfolding pick is_in first_met every_look once way_of flag_at last_below any_below
    stays is_candidate first_up up_in sensed fixed_block chosen switched stepped bad_report look_causes walked_to look_for
look-computes = tt

unfoldable pub rows-compute : Unit {0}
unfolding leaf-computes taken_as is_in every_look once way_of is_capable has_medium is_invalid is_fixed_medium flags rows_of
rows-compute = tt

-- the way to walk, and what a look answers that is refused, for the code that says so: an attribute names no dash
unfoldable pub way_computes : Unit {0}
unfolding pick is_in every_look once way_of
way_computes = tt

unfoldable pub refusal_computes : Unit {0}
unfolding pick first_met look_causes walked_to look_for
refusal_computes = tt
