-- The record is the definition's. Assumes nothing.
use Rattle.std.proofs.Common.{refl}
use Rattle.reader.proofs.Answered.{number-unwrapped}
use Rattle.reader.specs.Inside.{answer_from}
use Rattle.reader.specs.Reading.{refused_answer}
use Rattle.reader.proofs.AnswerFromResultReadingRefusal.from.Goals as goal

pub returns-in-Ok : goal.returns-in-Ok
unfolding answer_from
returns-in-Ok c = rw (c.unwrap_or.ensures, c.in-Ok.is, number-unwrapped _) refl

pub returns-in-Err : goal.returns-in-Err
unfolding refused_answer
returns-in-Err c = rw (c.number.ensures, c.in-Err.is) refl
