-- The built image is judged, and copied out whole where it is accepted. Assumes nothing.
use Rattle.std.proofs.Common.{ℕ, List, ◌≡◌, sym, ap, ◌∙◌, length}
use Rattle.std.proofs.lemmas.Result.{err_from_is_err_and}
use Rattle.rom.specs.Refusal.{first_met}
use Rattle.rom.proofs.Refusals.{not-accepted}
use Rattle.image.specs.declared.Arguments.{Arguments}
use Rattle.reader.specs.declared.Answer.{Answer}
use Rattle.reader.specs.Reading.{judge_causes, refused_answer, judge_answer}
use Rattle.reader.specs.Inside.{answer_from}
use Rattle.reader.proofs.Readings.{answer-number}
use Rattle.sheet.specs.Image.{newest_in}
use Rattle.writer.proofs.Images.{zeros-length, output-length}
use Rattle.writer.proofs.Numbers.{issue-refused, issue-copied}
use Rattle.writer.proofs.issue.Goals as goal

judged : (image : List ℕ) (a : Arguments) {r : Answer} → r ≡ judge_answer image a → r.number ≡ first_met (judge_causes image a)
unfolding judge_answer
judged image a e = ap (λ (x : Answer). x.number) e ∙ answer-number (first_met (judge_causes image a)) image a

pub returns-in_err-judge : goal.returns-in_err-judge
unfolding newest_in refused_answer
returns-in_err-judge c =
    let p = err_from_is_err_and c.from_residual.result c.from_residual.ensures.1 in
    let both = issue-refused _ _ _ _ c.build.ensures c.chip.ensures (not-accepted c.in_err-judge.field-0.0)
    (judged _ _ c.in_err-judge.ensures.answer) in
    rw (p.1, p.2) (record { value = both.0; image_after = both.1 })

pub returns : goal.returns
unfolding newest_in answer_from
returns c =
    let long = c.build.auto.image ∙ ap length c.requires.1 ∙ zeros-length _ ∙ sym (output-length c.requires.0) in
    let both = issue-copied _ _ _ _ c.build.ensures c.chip.ensures (judged _ _ c.in_ok-judge.ensures.answer) long c.put_bytes.ensures in
    record { value = both.0; image_after = both.1 }
