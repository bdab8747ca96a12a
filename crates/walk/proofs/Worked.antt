-- The looks compute, and so do calls of a walk of which only fresh or loaded is known. Assumes nothing.
use mathlib.Core.Path.{refl, ap, sym}
use Rattle.format.specs.Chips.{connections21041, connections21140, connections21142, connection_rows}
use Rattle.walk.specs.declared.Walked.{Walked}
use Rattle.walk.specs.Walk.{flags, fresh_walk, load_causes, load_for, clear_for}
use Rattle.walk.specs.Cases.{looked, look_cases}
use Rattle.walk.specs.FixedCases.{joined, cut_for, fixed_walk, looked_at, number_after, unless_missing, cases_of, cases_for, cases_of_all}
use Rattle.walk.specs.FixedCases.{fixed21041, fixed21140, fixed21142, fixed21143, fixed_tables, fixed_of, fixed_cases}
use Rattle.walk.specs.Claims.{LooksWorked, FlagsWorked, FixedWorked, FixedCovered, ClearedIsFresh, LoadedOnce}
use Rattle.walk.proofs.Computes.{look-computes, rows-compute}
use Rattle.walk.proofs.Loads.{load-loaded}

pub looks-worked : LooksWorked
unfolding look-computes looked look_cases
looks-worked = refl

pub flags-worked : FlagsWorked
unfolding flags
flags-worked = refl

pub fixed-worked : FixedWorked
unfolding look-computes rows-compute joined cut_for fixed_walk looked_at number_after unless_missing cases_of cases_for cases_of_all
    fixed21041 fixed21140 fixed21142 fixed21143 fixed_tables fixed_cases
fixed-worked = (refl, refl, refl, refl)

pub fixed-covered : FixedCovered
unfolding look-computes connections21041 connections21140 connections21142 connection_rows
    fixed21041 fixed21140 fixed21142 fixed21143 fixed_tables fixed_of
fixed-covered = refl

pub cleared-is-fresh : ClearedIsFresh
unfolding look-computes clear_for fresh_walk load_for load_causes
cleared-is-fresh w = (refl, (λ report. refl), (λ image a. refl))

pub loaded-once : LoadedOnce
loaded-once w image a e = sym (ap (λ (r : Walked). r.number) (load-loaded w image a e))
