-- Each early return is the first cause that is met; the built image is issued last. Assumes nothing.
use Rattle.std.proofs.Common.{◌<◌, sym, ◌∙◌, arith}
use Rattle.std.proofs.lemmas.Result.{err_from_is_err_and}
use Rattle.rom.specs.declared.refusal.Refusal.TheVariants.{ImageLength, Sheet, SheetTooLarge}
use lib.Seq.{length-take-le}
use Rattle.writer.proofs.Sheets.{many, few, handed-on}
use Rattle.writer.proofs.Images.{output-length, room-fits, in-zeros}
use Rattle.writer.proofs.Numbers.{output-kept, write-24, write-33, write-1, passed, passed-writable, write-record, write-issued}
use Rattle.writer.proofs.write.Goals as goal

pub returns-then-not-is_sheet : goal.returns-then-not-is_sheet
returns-then-not-is_sheet c =
    let both = output-kept _ _ _ _ _ Sheet (write-24 _ _ _ _ _ (sym c.if-not-is_sheet.ensures)) in
    record { value = both.0; image_after = both.1 }

pub returns-in_default : goal.returns-in_default
returns-in_default c =
    let above : 255 < c.count.result = let over = c.in_default.ensures in omega arith in
    let both = output-kept _ _ _ _ _ SheetTooLarge
    (write-33 _ _ _ _ _ (sym c.if-not-is_sheet.ensures) (many _ _ _ c.count.ensures.0 c.count.ensures.1 above)) in
    record { value = both.0; image_after = both.1 }

pub returns-then-is_wrong_output : goal.returns-then-is_wrong_output
returns-then-is_wrong_output c =
    let within = c.in-Ok.ensures in
    let both = output-kept _ _ _ _ _ ImageLength
    (write-1 _ _ _ _ _ (sym c.if-not-is_sheet.ensures) (few _ _ _ c.count.ensures.0 (omega arith)) (sym c.if-is_wrong_output.ensures)) in
    record { value = both.0; image_after = both.1 }

pub invariant_of-sheet : goal.invariant_of-sheet
invariant_of-sheet c =
    record { counted = handed-on _ _ (sym c.if-not-is_sheet.ensures) (c.in-Ok.ensures.1 ∙ c.count.ensures.0) c.shifted.ensures }

pub returns-in_err-check_record : goal.returns-in_err-check_record
returns-in_err-check_record c =
    let p = err_from_is_err_and c.from_residual.result c.from_residual.ensures.1 in
    let both = write-record
    (passed _ _ _ _ (sym c.if-not-is_sheet.ensures) c.count.ensures.0 c.in-Ok.ensures (sym c.if-is_wrong_output.ensures) c.shifted.ensures)
    _ _ c.in_err-check_record.ensures in
    rw (p.1, p.2) (record { value = both.0; image_after = both.1 })

pub slice_bounds-room-end : goal.slice_bounds-room-end
slice_bounds-room-end c =
    let w = passed-writable
    (passed _ _ _ _ (sym c.if-not-is_sheet.ensures) c.count.ensures.0 c.in-Ok.ensures (sym c.if-is_wrong_output.ensures) c.shifted.ensures)
    (sym c.in_ok-check_record.ensures) in
    room-fits c.args.layout _ c.blank-room.ensures (output-length w)

pub slice_bounds-issue-end : goal.slice_bounds-issue-end
slice_bounds-issue-end c =
    let w = passed-writable
    (passed _ _ _ _ (sym c.if-not-is_sheet.ensures) c.count.ensures.0 c.in-Ok.ensures (sym c.if-is_wrong_output.ensures) c.shifted.ensures)
    (sym c.in_ok-check_record.ensures) in
    sym (length-take-le _ _ (room-fits c.args.layout _ c.blank-room.ensures (output-length w)))

pub issue-requires : goal.issue-requires
issue-requires c =
    let w = passed-writable
    (passed _ _ _ _ (sym c.if-not-is_sheet.ensures) c.count.ensures.0 c.in-Ok.ensures (sym c.if-is_wrong_output.ensures) c.shifted.ensures)
    (sym c.in_ok-check_record.ensures) in
    (w, in-zeros c.args.layout _ c.blank-room.ensures (output-length w))

pub returns : goal.returns
returns c =
    let both = write-issued
    (passed _ _ _ _ (sym c.if-not-is_sheet.ensures) c.count.ensures.0 c.in-Ok.ensures (sym c.if-is_wrong_output.ensures) c.shifted.ensures)
    _ (sym c.in_ok-check_record.ensures) c.issue.ensures.value c.issue.ensures.image_after in
    record { value = both.0; image_after = both.1 }
