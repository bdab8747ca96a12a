-- Four puts, one behind the other. Assumes nothing.
use Rattle.std.proofs.Common.{◌∙◌, arith}
use Rattle.rom.proofs.Layouts.{geometry}
use Rattle.reader.specs.Inside.{answer_from}
use Rattle.reader.specs.Answered.{accepted_as}
use Rattle.maker.proofs.Sheets.{its-reading, image-long, field_put, maker-part}
use Rattle.maker.proofs.source.ReadImage.put_fields.Goals as goal

pub slice_bounds-put_bytes-count : goal.slice_bounds-put_bytes-count
slice_bounds-put_bytes-count c =
    let g = geometry c.args.self.layout in omega arith

pub slice_bounds-put_bytes-start : goal.slice_bounds-put_bytes-start
slice_bounds-put_bytes-start = slice_bounds-put_bytes-count

pub slice_bounds-put_bytes-end : goal.slice_bounds-put_bytes-end
slice_bounds-put_bytes-end c =
    let s = c.args.self in
    let g = geometry s.layout in
    omega (arith, image-long s.layout s.first_edition s.chip (its-reading s))

pub returns : goal.returns
unfolding answer_from
returns c =
    let s = c.args.self in
    let whole = image-long s.layout s.first_edition s.chip (its-reading s) in
    field_put s.layout _ whole _ c.requires _ (accepted_as s.reading).answer c.put_word.ensures c.put_word-2.ensures c.put_byte.ensures
    (c.put_bytes.ensures ∙ maker-part s.layout _ whole _ _ c.leaves_end.ensures c.checked_length.ensures)
