-- Field by field into zeros. Assumes nothing.
use Rattle.std.proofs.Common.{arith}
use Rattle.packet.proofs.Writing.{six-each, fields_laid}
use Rattle.magic.proofs.block_of.Goals as goal

pub returns : goal.returns
returns c =
    let m = c.args.magic in
    rw (
      c.put_word.ensures,
      c.put_bytes-2.ensures,
      c.put_bytes.ensures,
      c.offset.ensures,
      c.offset-2.ensures,
      c.offset-3.ensures,
    ) (fields_laid m (six-each m (omega arith) (omega arith)))
