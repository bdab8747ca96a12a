-- What the code's readings answer, as the definitions have it.
use Rattle.std.specs.Prelude.{ℕ, Result, Ok, Err}
use Rattle.rom.specs.declared.refusal.Refusal.{Refusal}
use Rattle.rom.specs.Numbers.{refusal_number}
use Rattle.header.specs.declared.Header.{Header}
use Rattle.header.specs.Header.{HeaderAnswer, header_read}
use Rattle.tally.specs.declared.sorts.Tally.{Tally}
use Rattle.tally.specs.Answer.{counted}
use Rattle.leaf.specs.Tally.{TallyAnswer}
use Rattle.reader.specs.declared.Answer.{Answer}
use Rattle.reader.specs.declared.Reading.{Reading}
use Rattle.reader.specs.Reading.{Judged, refused_answer, refused_reading}
use Rattle.reader.specs.Inside.{answer_from}

-- of a reading that is accepted
abbrev pub accepted_as : Reading → Judged
accepted_as r = record { answer = answer_from (header_read r.header) (counted r.tally); row = r.header.row; start = r.header.start }

-- what C gets
abbrev pub reading_answer : Result Reading Refusal → Answer
reading_answer (Ok r) = answer_from (header_read r.header) (counted r.tally)
reading_answer (Err r) = refused_answer (refusal_number r)

abbrev pub judged_of : Result Reading Refusal → Judged
judged_of (Ok r) = accepted_as r
judged_of (Err r) = refused_reading (refusal_number r)
