-- What the CRC calls answer: refusal 1 only, for a length other than the stated size, or a stated size other than the two.
use Rattle.std.specs.Prelude.{ℕ, List, [], ◌∷◌, Result, Ok, Err, eqb, length}
use Rattle.rom.specs.declared.refusal.Refusal.{Refusal}
use Rattle.rom.specs.Numbers.{refusal_number}
use Rattle.rom.specs.declared.Layout.{Layout}
use Rattle.rom.specs.Geometry.{wrong_length}
use Rattle.rom.specs.Bytes.{pick}
use Rattle.rom.specs.Refusal.{Cause, ◌⇒◌, first_met}
use Rattle.checksum.specs.declared.Checksum.{Checksum}
use Rattle.checksum.specs.Crc.{srom_crc, id_crc, magic_crc}

unfoldable pub crc_causes : ℕ → List ℕ → List Cause
crc_causes size image = (1 ⇒ wrong_length size (length image)) ∷ []

-- the CRC, or the refusal's number and 0
unfoldable pub answer : ℕ → ℕ → Checksum
answer number crc = record { number = number; value = pick (eqb number 0) crc 0 }

-- the same of a call's result
abbrev pub checksum_of : Result ℕ Refusal → Checksum
checksum_of (Ok value) = record { number = 0; value = value }
checksum_of (Err r) = record { number = refusal_number r; value = 0 }

unfoldable pub srom_answer : Layout → List ℕ → Checksum
srom_answer l image = answer (first_met (crc_causes l.size image)) (srom_crc l image)

unfoldable pub id_answer : ℕ → List ℕ → Checksum
id_answer size image = answer (first_met (crc_causes size image)) (id_crc image)

unfoldable pub magic_answer : ℕ → List ℕ → Checksum
magic_answer size image = answer (first_met (crc_causes size image)) (magic_crc size image)
