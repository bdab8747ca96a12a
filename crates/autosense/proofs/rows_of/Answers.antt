-- Each turn passes one block. Assumes nothing.
use Rattle.std.proofs.Common.{◌<◌, ◌∙◌, refl, arith}
use Rattle.autosense.proofs.Flags.{none_filled, next_within, listed_size, listed-filled, unlisted-filled, all_filled}
use Rattle.autosense.proofs.rows_of.Goals.{in-Some, in_default}
use Rattle.autosense.proofs.rows_of.Goals as goal

pub loop-number-init : goal.loop-number-init
loop-number-init c =
    none_filled _ _ c.requires c.no_rows-rows.ensures

pub slice_bounds-rest-count : goal.slice_bounds-rest-count
slice_bounds-rest-count c =
    let inv = c.loop-number.invariant in
    let more : c.loop-number.number < c.args.count = omega arith in
    elim c.match-medium_at.branch [
      | in-Some w ↦ next_within _ _ inv more (listed_size _ _ inv more refl w.in-Some.ensures w.size-is)
      | in_default w ↦ next_within _ _ inv more (w.size-is ∙ w.size_at-size.ensures)
    ]

pub slice_bounds-rest-start : goal.slice_bounds-rest-start
slice_bounds-rest-start c =
    let inv = c.loop-number.invariant in
    let more : c.loop-number.number < c.args.count = omega arith in
    elim c.match-medium_at.branch [
      | in-Some w ↦ next_within _ _ inv more (listed_size _ _ inv more refl w.in-Some.ensures w.size-is)
      | in_default w ↦ next_within _ _ inv more (w.size-is ∙ w.size_at-size.ensures)
    ]

pub loop-number-preserved : goal.loop-number-preserved
loop-number-preserved c =
    let inv = c.loop-number.invariant in
    let more : c.loop-number.number < c.args.count = omega arith in
    elim c.match-medium_at.branch [
      | in-Some w ↦
          let size = listed_size _ _ inv more refl w.in-Some.ensures w.size-is in
          rw (w.rows-is, w.from.ensures, w.from-in-Some.ensures, w.has_fixed_medium.ensures)
          (listed-filled _ _ inv more (omega arith) refl size w.in-Some.ensures c.taken_as-taken.ensures)
      | in_default w ↦
          let size = w.size-is ∙ w.size_at-size.ensures in
          rw w.rows-is (unlisted-filled _ _ inv more (omega arith) refl size w.in_default.ensures)
    ]

pub returns : goal.returns
returns c =
    all_filled _ _ _ c.loop-number.invariant (omega arith)
