-- A result of the library, by its number and its value. Assumes nothing.
use Rattle.std.proofs.Common.{ℕ, ◌≡◌, Bool, Result, Ok, Err, refl, sym}
use Rattle.std.specs.Prelude.{is_ok, eqb}
use Rattle.std.specs.Result.{result_unwrap_or}
use borrow.Author.Tests.{ne_eqb}
use Rattle.rom.specs.declared.refusal.Refusal.{Refusal}
use Rattle.rom.specs.Numbers.{refusal_number}
use Rattle.rom.proofs.Refusals.{not-accepted}
use Rattle.checksum.specs.Answer.{checksum_of}
use Rattle.reader.specs.declared.Reading.{Reading}
use Rattle.reader.specs.Inside.{answer_from}
use Rattle.reader.specs.Reading.{refused_answer}
use Rattle.reader.specs.Answered.{reading_answer}

pub accepted_number : (r : Result Reading Refusal) → is_ok r ≡ eqb (reading_answer r).number 0
unfolding answer_from refused_answer
accepted_number (Ok r) = refl
accepted_number (Err r) = sym (ne_eqb (refusal_number r) 0 (not-accepted r))

pub crc_or_zero : (r : Result ℕ Refusal) → result_unwrap_or r 0 ≡ (checksum_of r).value
crc_or_zero (Ok value) = refl
crc_or_zero (Err r) = refl
