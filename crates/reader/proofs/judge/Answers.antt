-- Room for 255 entries is never too little, and the answer is the reading's. Assumes nothing.
use Rattle.std.proofs.Common.{◌≡◌, ◌-◌, ◌∙◌, refl}
use Rattle.image.specs.Image.{block_count}
use Rattle.image.specs.Arguments.{start_for}
use Rattle.reader.specs.Answered.{judged_of}
use Rattle.reader.specs.Reading.{judged_reading, refused_reading}
use Rattle.reader.proofs.Readings.{no-array, judged-answer}
use Rattle.reader.proofs.Answered.{answer-judged}
use Rattle.reader.proofs.judge.Goals as goal

pub returns : goal.returns
unfolding block_count
returns c =
    let a = c.args in
    let byte = (c.type_inv.image (start_for a.image.now a.arguments - 1)).fits in
    let e : judged_of c.read_for.result ≡ judged_reading a.image.now a.arguments
    = c.read_for.ensures ∙ no-array a.image.now a.arguments byte in
    record { answer = answer-judged c.read_for.result ∙ judged-answer a.image.now a.arguments _ e; reading = e }
