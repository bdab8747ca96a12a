-- The entry is found in the accepted leaf. Assumes nothing.
use Rattle.std.proofs.Common.{◌∙◌}
use Rattle.reader.specs.Inside.{answer_from}
use Rattle.reader.proofs.Answered.{ok-number, err-number}
use Rattle.reader.proofs.Readings.{accepted-judged, reading-blocks, reading-listed, reading-short, no-part, a-part}
use Rattle.reader.proofs.view_part.Goals as goal

pub returns-in_default : goal.returns-in_default
returns-in_default c =
    no-part c.args.image.now c.args.arguments _ c.in_default.ensures.reading c.args.entry (err-number c.in_default.field-0)

pub find-requires : goal.find-requires
unfolding answer_from
find-requires c =
    let a = c.args in
    let k = accepted-judged a.image.now a.arguments _ c.in-Ok.ensures.reading (ok-number c.in-Ok.field-0) in
    rw (c.up_to_leaves_end.ensures.result_value, c.from.ensures) (record {
      blocks_value = reading-blocks k;
      listed_value = (reading-listed k, reading-short k);
    })

pub returns : goal.returns
unfolding answer_from
returns c =
    let a = c.args in
    c.find.ensures ∙ a-part a.image.now a.arguments _ c.in-Ok.ensures.reading _ c.up_to_leaves_end.ensures.result_value a.entry
    (ok-number c.in-Ok.field-0)
