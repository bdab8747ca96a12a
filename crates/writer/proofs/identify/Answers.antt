-- The CRC that is answered goes to byte 16. Assumes nothing.
use mathlib.Core.Path.{ap}
use native.Mathlib.Omega.{arith}
use lib.ListN.{length, set}
use Rattle.rom.proofs.Layouts.{sized, right-length}
use Rattle.checksum.specs.Crc.{id_crc}
use Rattle.checksum.specs.Answer.{id_answer}
use Rattle.checksum.proofs.Answers.{answered-value, never-refused}
use Rattle.checksum.proofs.Eight.{crc8-lt}
use Rattle.writer.specs.Inside.{with_id_crc}
use Rattle.writer.proofs.identify.Goals as goal

pub unreachable-requires : goal.unreachable-requires
unfolding id_answer
unreachable-requires c =
    let image = c.args.image.now in never-refused c.args.size image (id_crc image) _ c.requires c.in_default.ensures

pub overflow_cast-image : goal.overflow_cast-image
unfolding id_answer id_crc
overflow_cast-image c =
    let image = c.args.image.now in
    let e = answered-value c.args.size image (id_crc image) _ c.requires c.in-Ok.ensures in
    omega (arith, crc8-lt 8 0 image)

pub bounds-image-16 : goal.bounds-image-16
bounds-image-16 c =
    let s = sized c.args.size in
    omega (arith, right-length c.args.size (length c.args.image.now) c.requires)

pub returns : goal.returns
unfolding with_id_crc id_answer
returns c =
    let image = c.args.image.now in
    ap (set image 16) (answered-value c.args.size image (id_crc image) _ c.requires c.in-Ok.ensures)
