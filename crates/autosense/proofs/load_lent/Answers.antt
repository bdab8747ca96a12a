-- The reader's answer decides, and the rows hold as many blocks as a leaf can have. Assumes nothing.
use Rattle.std.proofs.Common.{refl}
use Rattle.std.proofs.lemmas.Result.{err_from_is_err_and}
use Rattle.reader.specs.Inside.{answer_from}
use Rattle.reader.specs.Reading.{refused_answer, refused_reading}
use Rattle.reader.proofs.Answered.{ok-number, err-number, number-unwrapped}
use Rattle.reader.proofs.Readings.{accepted-judged, reading-blocks}
use Rattle.walk.proofs.Loads.{load-loaded, load-refused, load-done}
use Rattle.autosense.proofs.load_lent.Goals as goal

pub returns-then-walk : goal.returns-then-walk
returns-then-walk c = load-loaded _ _ _ c.if-walk.true

pub returns-in_err-header : goal.returns-in_err-header
unfolding refused_reading refused_answer
returns-in_err-header c =
    let a = c.args in
    let e = c.in_err-header.ensures.reading in
    let p = err_from_is_err_and c.from_residual.result c.from_residual.ensures.1 in
    rw (p.1, p.2) (load-refused a.walk.now a.image.now a.arguments c.if-walk.false _ e (err-number c.in_err-header.field-0.0))

pub rows_of-requires : goal.rows_of-requires
unfolding answer_from
rows_of-requires c =
    let a = c.args in
    rw c.up_to_leaves_end.ensures.result_value
    (reading-blocks (accepted-judged a.image.now a.arguments _ c.in_ok-header.ensures.reading (ok-number c.in_ok-header.field-0)))

pub returns : goal.returns
unfolding answer_from
returns c =
    let a = c.args in
    rw (c.unwrap_or.ensures, number-unwrapped c.in_ok-header.field-0.tally.default_number)
    (load-done a.walk.now a.image.now a.arguments c.if-walk.false _ c.in_ok-header.ensures.reading (ok-number c.in_ok-header.field-0) _
    c.up_to_leaves_end.ensures.result_value c.rows_of.result c.rows_of.ensures)
