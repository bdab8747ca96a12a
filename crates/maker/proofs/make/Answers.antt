-- The reading, the measured leaf, tidiness and room decide before the first store. Assumes nothing.
use Rattle.std.proofs.Common.{ℕ, List, ◌≡◌, ◌≤◌, sym, ap, ◌∙◌, length, arith}
use Rattle.std.proofs.lemmas.Result.{err_from_is_err_and}
use Rattle.rom.specs.Refusal.{first_met}
use Rattle.image.specs.declared.Arguments.{Arguments}
use Rattle.reader.specs.Inside.{answer_from}
use Rattle.reader.specs.Reading.{Judged, judge_causes, judged_reading, refused_answer, refused_reading}
use Rattle.reader.proofs.Answered.{ok-number}
use Rattle.reader.proofs.Readings.{reading-number}
use Rattle.rom.specs.declared.refusal.Refusal.TheVariants.{ImageLength, Untidy, ArrayLength}
use Rattle.rom.specs.Geometry.{image_length}
use Rattle.rom.proofs.Layouts.{geometry}
use Rattle.rom.proofs.Refusals.{not-accepted}
use Rattle.sheet.specs.Sheet.{body_bytes}
use Rattle.sheet.specs.Image.{newest_in}
use Rattle.maker.proofs.Making.{small-total, refused, make-other, make-unread, make-untidy, make-short, make-done, made-length-is}
use Rattle.maker.proofs.make.Goals as goal

pub returns-then-is_beyond : goal.returns-then-is_beyond
returns-then-is_beyond c =
    let both = refused _ _ _ _ _ _ (not-accepted ImageLength) (make-other _ _ _ _ _ _ (sym c.if-is_beyond.ensures)) in
    record { value = both.0; buffer_after = both.1 }

judged : (image : List ℕ) (a : Arguments) {r : Judged} → r ≡ judged_reading image a → r.answer.number ≡ first_met (judge_causes image a)
unfolding judged_reading
judged image a {r} e = reading-number (first_met (judge_causes image a)) image a r e

pub returns-in_err-reading : goal.returns-in_err-reading
unfolding newest_in refused_reading refused_answer
returns-in_err-reading c =
    let p = err_from_is_err_and c.from_residual.result c.from_residual.ensures.1 in
    let z = not-accepted c.in_err-reading.field-0.0 in
    let both = refused _ _ _ _ _ _ z
    (make-unread _ _ _ _ _ (sym c.if-is_beyond.ensures) _ z (judged _ _ c.in_err-reading.ensures.reading)) in
    rw (p.1, p.2) (record { value = both.0; buffer_after = both.1 })

pub invariant_of-source : goal.invariant_of-source
unfolding newest_in
invariant_of-source c = record { read = c.in_ok-reading.ensures.reading }

pub returns-then-not-is_tidy : goal.returns-then-not-is_tidy
unfolding newest_in answer_from
returns-then-not-is_tidy c =
    let end = c.measure-measured.ensures.end ∙ c.blocks-2.ensures.end in
    let both = refused _ _ _ _ _ _ (not-accepted Untidy)
    (make-untidy _ _ _ _ _ (sym c.if-is_beyond.ensures) (judged _ _ c.in_ok-reading.ensures.reading)
    end _ (sym c.if-not-is_tidy.ensures)) in
    record { value = both.0; buffer_after = both.1 }

pub returns-then-buffer-length : goal.returns-then-buffer-length
unfolding newest_in answer_from
returns-then-buffer-length c =
    let end = c.measure-measured.ensures.end ∙ c.blocks-2.ensures.end in
    let total = c.measure-measured.ensures.bodies ∙ ap (λ es. length (body_bytes es)) c.blocks-2.ensures.entries in
    let long = made-length-is c.args.form c.args.layout c.args.first_edition c.args.image.now c.args.chip c.in_ok-reading.ensures.reading
    (ok-number c.in_ok-reading.reading) c.shift-head.ensures c.from.ensures total in
    let both = refused _ _ _ _ _ _ (not-accepted ArrayLength)
    (make-short _ _ _ _ _ (sym c.if-is_beyond.ensures) (judged _ _ c.in_ok-reading.ensures.reading)
    end (sym c.if-not-is_tidy.ensures) long _
    c.if-buffer-length.true) in
    record { value = both.0; buffer_after = both.1 }

pub overflow_cast-measured : goal.overflow_cast-measured
overflow_cast-measured c =
    let g = geometry c.args.layout in
    omega (arith, c.blocks-2.ensures.within, c.measure-measured.ensures.within.0, c.measure-measured.ensures.within.1)

pub put_sheet-requires : goal.put_sheet-requires
unfolding newest_in answer_from
put_sheet-requires c =
    let total = c.measure-measured.ensures.bodies ∙ ap (λ es. length (body_bytes es)) c.blocks-2.ensures.entries in
    let long = made-length-is c.args.form c.args.layout c.args.first_edition c.args.image.now c.args.chip c.in_ok-reading.ensures.reading
    (ok-number c.in_ok-reading.reading) c.shift-head.ensures c.from.ensures total in
    let few : c.measure-measured.result.bodies ≤ image_length c.args.layout.size
    = omega (arith, c.blocks-2.ensures.within, c.measure-measured.ensures.within.0, c.measure-measured.ensures.within.1) in
    record {
      bodies = (total, small-total c.args.form c.args.layout _ (sym c.if-is_beyond.ensures) few);
      room = omega (arith, long);
    }

pub returns : goal.returns
unfolding newest_in answer_from
returns c =
    let end = c.measure-measured.ensures.end ∙ c.blocks-2.ensures.end in
    let total = c.measure-measured.ensures.bodies ∙ ap (λ es. length (body_bytes es)) c.blocks-2.ensures.entries in
    let long = made-length-is c.args.form c.args.layout c.args.first_edition c.args.image.now c.args.chip c.in_ok-reading.ensures.reading
    (ok-number c.in_ok-reading.reading) c.shift-head.ensures c.from.ensures total in
    let both = make-done _ _ _ _ _ (sym c.if-is_beyond.ensures) (judged _ _ c.in_ok-reading.ensures.reading)
    end (sym c.if-not-is_tidy.ensures) long _
    c.if-buffer-length.false c.put_sheet.ensures in
    record { value = both.0; buffer_after = both.1 }
