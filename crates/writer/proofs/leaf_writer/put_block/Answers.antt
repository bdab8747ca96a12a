-- The opening, and the body behind it. Assumes nothing.
use Rattle.writer.proofs.Openings.{entry-put}
use Rattle.writer.proofs.leaf_writer.put_block.Goals as goal

pub returns-clause-room_after : goal.returns-clause-room_after
returns-clause-room_after c =
    entry-put c.requires c.put_opening-at.ensures.value c.put_opening-at.ensures.room_after c.put_bytes.ensures
