-- The reading is assessed before anything is written; accepted, it has room for its table. Assumes nothing.
use Rattle.std.proofs.Common.{ℕ, length, ◌∙◌, sym}
use Rattle.std.proofs.lemmas.Result.{err_from_is_err_and}
use Rattle.image.specs.Arguments.{row_for}
use Rattle.leaf.specs.Leaf.{kind_at, start_at}
use Rattle.std.specs.Prelude.{Err, Ok}
use Rattle.reader.specs.Inside.{answer_from}
use Rattle.reader.specs.Reading.{read_kinds, read_offsets}
use Rattle.reader.proofs.Answered.{answer-judged, ok-number, err-number}
use Rattle.reader.proofs.Readings.{answer-read, unchanged, accepted-read, reading-blocks, reading-listed, reading-short}
use Rattle.reader.proofs.Readings.{room-kinds, room-offsets, filled_in}
use Rattle.reader.proofs.read.Goals as goal

pub returns-in_err-reading : goal.returns-in_err-reading
unfolding read_kinds read_offsets
returns-in_err-reading c =
    let a = c.args in
    let n = err-number c.in_err-reading.field-0.0 in
    let e = c.in_err-reading.ensures in
    let p = err_from_is_err_and c.from_residual.result c.from_residual.ensures.1 in
    rw (p.1, p.2) (record {
      value = answer-judged (Err c.in_err-reading.field-0.0) ∙ answer-read a.image.now a.arguments _ _ _ e;
      kinds_after = unchanged a.image.now a.arguments _ _ _ e (kind_at (row_for a.arguments)) a.kinds.now n;
      offsets_after = unchanged a.image.now a.arguments _ _ _ e start_at a.offsets.now n;
    })

pub fill-requires : goal.fill-requires
unfolding answer_from
fill-requires c =
    let a = c.args in
    let e = c.in_ok-reading.ensures in
    let z = ok-number c.in_ok-reading.reading in
    let k = accepted-read a.image.now a.arguments _ _ _ e z in
    rw (c.up_to_leaves_end.ensures.result_value, c.from.ensures) (record {
      blocks_value = reading-blocks k;
      listed_value = reading-listed k;
      listed_in_bounds = (room-kinds _ _ _ _ _ e z, room-offsets _ _ _ _ _ e z, reading-short k);
    })

pub returns : goal.returns
unfolding read_kinds read_offsets answer_from
returns c =
    let a = c.args in
    let e = c.in_ok-reading.ensures in
    let z = ok-number c.in_ok-reading.reading in
    let rest = c.up_to_leaves_end.ensures.result_value in
    let starts = λ (row : ℕ). start_at in
    record {
      value = answer-read a.image.now a.arguments _ _ _ e;
      kinds_after = c.fill.ensures.kinds_after ∙ filled_in a.image.now a.arguments _ _ _ e z _ rest kind_at a.kinds.now;
      offsets_after = c.fill.ensures.offsets_after ∙ filled_in a.image.now a.arguments _ _ _ e z _ rest starts a.offsets.now;
    }
