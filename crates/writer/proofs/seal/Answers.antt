-- The CRC that is answered goes behind what it covers. Assumes nothing.
use Prim.Native.Nat.{ℕ}
use mathlib.Core.Path.{ap₂, ◌∙◌}
use native.Mathlib.Omega.{arith}
use lib.ListN.{length}
use Rattle.rom.specs.Geometry.{checked_length}
use Rattle.rom.specs.Store.{word_bytes, laid}
use Rattle.rom.proofs.Layouts.{geometry, right-length}
use Rattle.rom.proofs.Put.{laid_word}
use Rattle.checksum.specs.Crc.{srom_crc}
use Rattle.checksum.specs.Answer.{srom_answer}
use Rattle.checksum.proofs.Answers.{answered-value, never-refused}
use Rattle.writer.specs.Inside.{with_srom_crc}
use Rattle.writer.proofs.seal.Goals as goal

pub unreachable-requires : goal.unreachable-requires
unfolding srom_answer
unreachable-requires c =
    let image = c.args.image.now in
    let l = c.args.layout in never-refused l.size image (srom_crc l image) _ c.requires c.in_default.ensures

pub returns : goal.returns
unfolding with_srom_crc srom_answer
returns c =
    let image = c.args.image.now in
    let l = c.args.layout in
    let g = geometry l in
    c.put_word.ensures
    ∙ ap₂ (λ (i v : ℕ). laid image i (word_bytes v)) c.checked_length.ensures
    (answered-value l.size image (srom_crc l image) _ c.requires c.in-Ok.ensures)
    ∙ laid_word image (checked_length l) _ (omega (arith, right-length l.size (length image) c.requires))
