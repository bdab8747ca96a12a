-- The parts of the sheet stand where the image has them. Assumes nothing.
use Rattle.std.proofs.Common.{refl}
use Rattle.writer.specs.Inside.{zeros}
use Rattle.writer.proofs.Counting.{has-head}
use Rattle.writer.proofs.Images.{front-laid}
use Rattle.writer.proofs.front.Goals as goal

pub returns : goal.returns
unfolding zeros
returns c =
    front-laid _ c.args.sheet.bytes.now (has-head c.args.sheet.counted) refl c.put_bytes.ensures c.put_bytes-2.ensures
    c.put_bytes-3.ensures c.put_word.ensures
