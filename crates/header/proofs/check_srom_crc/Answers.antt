-- An image of the right length has a CRC. Assumes nothing.
use Rattle.std.proofs.Common.{arith}
use Rattle.std.proofs.lemmas.Grind.{common_steps}
use Rattle.rom.specs.Bytes.{pick}
use Rattle.rom.specs.Refusal.{first_met}
use Rattle.checksum.specs.Answer.{srom_answer}
use Rattle.checksum.proofs.Answers.{answered-value, never-refused}
use Rattle.header.proofs.check_srom_crc.Goals as goal

pub returns-in_err-srom_crc : goal.returns-in_err-srom_crc
unfolding srom_answer
returns-in_err-srom_crc c = absurd (never-refused _ _ _ _ c.requires c.in_err-srom_crc.ensures)

pub returns-then-branch : goal.returns-then-branch
unfolding first_met pick srom_answer
returns-then-branch c =
    let crc = answered-value _ _ _ _ c.requires c.in_ok-srom_crc.ensures in
    grind (arith, common_steps, crc, c.if-branch.true, c.word_at-stored.ensures, c.checked_length.ensures)

pub returns : goal.returns
unfolding first_met pick srom_answer
returns c =
    let crc = answered-value _ _ _ _ c.requires c.in_ok-srom_crc.ensures in
    grind (arith, common_steps, crc, c.if-branch.false, c.word_at-stored.ensures, c.checked_length.ensures)
