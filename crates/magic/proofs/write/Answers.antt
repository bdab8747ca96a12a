-- The block behind the board, and then its CRC. Assumes nothing.
use Rattle.std.proofs.Common.{refl, arith}
use Rattle.packet.proofs.Writing.{write-refused, crc-small, all-laid}
use Rattle.magic.proofs.write.Goals as goal

pub returns-in_err-check_length-clause-image_after : goal.returns-in_err-check_length-clause-image_after
returns-in_err-check_length-clause-image_after c =
    write-refused c.args.size c.args.magic c.args.image.now _ c.in_err-check_length.ensures

pub overflow_cast-crc : goal.overflow_cast-crc
overflow_cast-crc c =
    omega (
      arith,
      crc-small c.args.size c.args.magic (omega arith) (omega arith) c.args.image.now c.in_ok-check_length.ensures c.block_of.ensures refl
          c.put_bytes.ensures c.in_ok-crc.ensures,
    )

pub returns-clause-image_after : goal.returns-clause-image_after
returns-clause-image_after c =
    all-laid c.args.size c.args.magic (omega arith) (omega arith) c.args.image.now c.in_ok-check_length.ensures c.block_of.ensures refl
    c.put_bytes.ensures c.in_ok-crc.ensures (omega arith) c.put_byte.ensures
