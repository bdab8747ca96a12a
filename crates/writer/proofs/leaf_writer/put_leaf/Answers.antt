-- The head, and the blocks behind it. Assumes nothing.
use Rattle.writer.proofs.Sheets.{leaf-holds, leaf-put}
use Rattle.writer.proofs.leaf_writer.put_leaf.Goals as goal

pub put_entries-requires : goal.put_entries-requires
put_entries-requires c =
    leaf-holds c.requires c.put_head-start.ensures.value c.put_head-start.ensures.room_after c.lent_entries.ensures

pub returns : goal.returns
returns c =
    leaf-put c.requires c.put_head-start.ensures.value c.put_head-start.ensures.room_after c.lent_entries.ensures c.put_entries.ensures
