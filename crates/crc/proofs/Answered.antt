-- What the CRC calls answer, as one set of laws. Assumes nothing.
use Rattle.std.proofs.Common.{◌≡◌, ℕ, ◌≤◌, List, [], ◌∷◌, refl, arith}
use Rattle.rom.specs.declared.Layout.{Layout}
use Rattle.rom.specs.Geometry.{wrong_length, checked_length, magic_word}
use Rattle.rom.specs.Refusal.{◌⇒◌, first_met}
use Rattle.rom.proofs.Layouts.{sized, geometry, right-length}
use Rattle.checksum.specs.Crc.{crc8, magic_crc}
use Rattle.checksum.proofs.Answers.{right-passed, refused, accepted}

pub within : (l : Layout) (n : ℕ) → 0 ≡ first_met ((1 ⇒ wrong_length l.size n) ∷ []) → checked_length l ≤ n
within l n e =
    let g = geometry l in
    let long = right-length l.size n (right-passed l.size n e) in
    omega arith

pub magic_crc-is : (size : ℕ) (image : List ℕ) → magic_crc size image ≡ crc8 15 (magic_word size) image
unfolding magic_crc
magic_crc-is size image = refl

pub ruleset answering = (sized, within, right-length, right-passed, refused, accepted, magic_crc-is)
