-- The connection type, and the other bytes behind it. Assumes nothing.
use Rattle.writer.proofs.Sheets.{entry-count, head-21140, head-other}
use Rattle.writer.proofs.leaf_writer.put_head.Goals as goal

pub returns-then-row-eq-ROW_21140 : goal.returns-then-row-eq-ROW_21140
returns-then-row-eq-ROW_21140 c =
    let both = head-21140 _ _ c.requires c.put_word.ensures _ (entry-count _ c.args.sheet.bytes.now) c.row.ensures c.connection.ensures
    c.if-row-eq-ROW_21140.true c.control.ensures in
    record { value = both.0; room_after = both.1 }

pub returns : goal.returns
returns c =
    let both = head-other _ _ c.requires c.put_word.ensures _ (entry-count _ c.args.sheet.bytes.now) c.row.ensures c.connection.ensures
    c.if-row-eq-ROW_21140.false in
    record { value = both.0; room_after = both.1 }
