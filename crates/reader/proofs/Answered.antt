-- The answer of a reading is what C gets of it, and its number tells whether it is accepted. Assumes nothing.
use Rattle.std.proofs.Common.{ℕ, ◌≡◌, Option, Some, None, Result, Ok, Err, refl}
use Rattle.rom.specs.declared.refusal.Refusal.{Refusal}
use Rattle.std.specs.Prelude.{unwrap_or}
use Rattle.rom.specs.Geometry.{none}
use Rattle.rom.specs.Numbers.{number_or_none}
use Rattle.rom.proofs.Refusals.{not-accepted}
use Rattle.reader.specs.declared.Reading.{Reading}
use Rattle.reader.specs.Inside.{answer_from}
use Rattle.reader.specs.Reading.{refused_answer, refused_reading}
use Rattle.reader.specs.Answered.{reading_answer, judged_of}

-- a default's number, or that of no block
pub number-unwrapped : (o : Option ℕ) → unwrap_or o none ≡ number_or_none o
number-unwrapped (Some k) = refl
number-unwrapped None = refl

pub answer-judged : (r : Result Reading Refusal) → reading_answer r ≡ (judged_of r).answer
unfolding refused_reading
answer-judged (Ok r) = refl
answer-judged (Err r) = refl

pub ok-number : (r : Reading) → (judged_of (Ok r)).answer.number ≡ 0
unfolding answer_from
ok-number r = refl

pub err-number : (r : Refusal) → (judged_of (Err r)).answer.number ≡ 0 → ⊥
unfolding refused_reading refused_answer
err-number r = not-accepted r
