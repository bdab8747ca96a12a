-- The counts, and all that follows them, lent on as a part. Assumes nothing.
use Rattle.std.proofs.Common.{◌<◌, rules}
use Rattle.reader.specs.Inside.{answer_from}
use Rattle.maker.proofs.Sheets.{its-reading}
use Rattle.maker.proofs.Laying.{start_fits, content-room, sheet-put}
use Rattle.maker.proofs.source.ReadImage.put_sheet.Goals as goal

pub slice_bounds-put_content-count : goal.slice_bounds-put_content-count
unfolding answer_from
slice_bounds-put_content-count c =
    let s = c.args.self in
    let few : s.reading.header.blocks < 256 = search rules in
    start_fits _ s.layout s.first_edition s.chip (its-reading s) few c.requires.bodies _ c.requires.room c.from.ensures
    c.put_counts.ensures c.shift.ensures

pub slice_bounds-put_content-start : goal.slice_bounds-put_content-start
slice_bounds-put_content-start = slice_bounds-put_content-count

pub put_content-requires : goal.put_content-requires
unfolding answer_from
put_content-requires c =
    let s = c.args.self in
    let few : s.reading.header.blocks < 256 = search rules in
    content-room _ s.layout s.first_edition s.chip (its-reading s) few c.requires.bodies _ c.requires.room c.from.ensures
    c.put_counts.ensures c.shift.ensures

pub returns : goal.returns
unfolding answer_from
returns c =
    let s = c.args.self in
    let few : s.reading.header.blocks < 256 = search rules in
    sheet-put _ s.layout s.first_edition s.chip (its-reading s) few c.requires.bodies _ c.requires.room c.from.ensures
    c.put_counts.ensures c.shift.ensures c.put_content.ensures
