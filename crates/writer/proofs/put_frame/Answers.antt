-- The front among zeros, and the maker's bytes where leaves end. Assumes nothing.
use Rattle.sheet.specs.Sheet.{plain_from}
use Rattle.writer.proofs.Counting.{sized-fields}
use Rattle.writer.proofs.Images.{frame_is}
use Rattle.writer.proofs.put_frame.Goals as goal

pub returns : goal.returns
unfolding plain_from
returns c =
    frame_is _ (sized-fields c.args.sheet.counted) c.args.layout _ c.requires c.front.ensures c.put_bytes.ensures c.leaves_end.ensures
    c.put_bytes-2.ensures
