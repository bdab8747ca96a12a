-- What the block's reader and writer answer, and why they refuse an image (document 02, request 1).
use Rattle.std.specs.Prelude.{ℕ, List, [], ◌∷◌, Result, Ok, Err, eqb, length, replicate}
use Rattle.rom.specs.declared.refusal.Refusal.{Refusal}
use Rattle.rom.specs.Numbers.{refusal_number}
use Rattle.rom.specs.Geometry.{wrong_length}
use Rattle.rom.specs.Bytes.{pick}
use Rattle.rom.specs.Refusal.{Cause, ◌⇒◌, first_met}
use Rattle.packet.specs.declared.Magic.{Magic}
use Rattle.packet.specs.declared.MagicAnswer.{MagicAnswer}
use Rattle.packet.specs.Block.{magic_in, bad_crc, bad_reserved, with_block}

-- ## Reading

unfoldable pub magic_block_causes : ℕ → List ℕ → List Cause
magic_block_causes size image = (29 ⇒ bad_crc size image) ∷ (30 ⇒ bad_reserved size image) ∷ []

unfoldable pub magic_length_cause : ℕ → List ℕ → Cause
magic_length_cause size image = 1 ⇒ wrong_length size (length image)

unfoldable pub magic_read_causes : ℕ → List ℕ → List Cause
magic_read_causes size image = magic_length_cause size image ∷ magic_block_causes size image

unfoldable pub magic_read_number : ℕ → List ℕ → ℕ
magic_read_number size image = first_met (magic_read_causes size image)

-- a refusal's other fields are 0
unfoldable pub no_magic : Magic
no_magic = record { password = replicate 6 0; address = replicate 6 0; command = 0 }

-- what is answered for a call's result
abbrev pub magic_answer_of : Result Magic Refusal → MagicAnswer
magic_answer_of (Ok m) = record { number = 0; magic = m }
magic_answer_of (Err r) = record { number = refusal_number r; magic = no_magic }

unfoldable pub magic_reading : ℕ → List ℕ → MagicAnswer
magic_reading size image =
    record { number = magic_read_number size image; magic = pick (eqb (magic_read_number size image) 0) (magic_in size image) no_magic }

-- ## Writing

unfoldable pub magic_write_causes : ℕ → List ℕ → List Cause
magic_write_causes size image = magic_length_cause size image ∷ []

unfoldable pub magic_write_number : ℕ → List ℕ → ℕ
magic_write_number size image = first_met (magic_write_causes size image)

-- the image after the call, unchanged on a refusal
unfoldable pub magic_written : ℕ → Magic → List ℕ → List ℕ
magic_written size m image = pick (eqb (magic_write_number size image) 0) (with_block size m image) image
