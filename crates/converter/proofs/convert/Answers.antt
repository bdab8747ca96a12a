-- Each early return is the first cause that is met; all of the sheet is laid in at the end. Assumes nothing.
use Rattle.std.proofs.Common.{ap, sym, refl, ◌∙◌}
use Rattle.rom.specs.declared.refusal.Refusal.TheVariants.{Sheet, SheetTooLarge, ArrayLength}
use Rattle.sheet.specs.Form.{shift}
use Rattle.converter.proofs.Converting.{refused, convert-24, convert-33, convert-12, content-start, convert-done}
use Rattle.converter.proofs.convert.Goals as goal

pub returns-then-not-is_sheet : goal.returns-then-not-is_sheet
returns-then-not-is_sheet c =
    let both = refused _ _ _ Sheet (convert-24 _ _ _ (sym c.if-not-is_sheet.ensures)) in
    record { value = both.0; buffer_after = both.1 }

pub returns-then-is_too_large : goal.returns-then-is_too_large
returns-then-is_too_large c =
    let both = refused _ _ _ SheetTooLarge
    (convert-33 _ _ _ (sym c.if-not-is_sheet.ensures) (sym c.if-is_too_large.ensures)) in
    record { value = both.0; buffer_after = both.1 }

pub slice_bounds-content-count : goal.slice_bounds-content-count
slice_bounds-content-count c =
    content-start _ _ (sym c.if-not-is_sheet.ensures) c.shifted.ensures refl

pub slice_bounds-content-start : goal.slice_bounds-content-start
slice_bounds-content-start = slice_bounds-content-count

pub returns-then-buffer-length : goal.returns-then-buffer-length
returns-then-buffer-length c =
    let both = refused _ _ _ ArrayLength
    (convert-12 _ _ (sym c.if-not-is_sheet.ensures) c.shifted.ensures (c.shift-start.ensures ∙ ap shift c.other-to.ensures) _
    (sym c.if-is_too_large.ensures) c.if-buffer-length.true) in
    record { value = both.0; buffer_after = both.1 }

pub returns : goal.returns
returns c =
    let both = convert-done _ _ (sym c.if-not-is_sheet.ensures) c.shifted.ensures (c.shift-start.ensures ∙ ap shift c.other-to.ensures) _
    (sym c.if-is_too_large.ensures) c.if-buffer-length.false c.count.ensures.0 c.total.ensures c.other-to.ensures
    c.put_counts.ensures c.put_bytes.ensures in
    record { value = both.0; buffer_after = both.1 }
