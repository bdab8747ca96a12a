-- The stored CRC is another. Assumes nothing.
use Rattle.std.proofs.lemmas.Option.{MatchOption-at_some}
use Rattle.packet.proofs.Reading.{crc-refused}
use Rattle.magic.proofs.accepted.Goals as goal

pub returns-then-branch-clause-number : goal.returns-then-branch-clause-number
returns-then-branch-clause-number c =
    crc-refused c.args.size c.args.image.now c.in_ok-check_length.ensures
    (MatchOption-at_some _ _ c.unwrap-block.result c.unwrap-block.ensures c.last_chunk.ensures.cases).1.same
    c.from.ensures c.from-2.ensures c.in_ok-magic_crc.ensures c.if-branch.true
