-- The byte that is read. Assumes nothing.
use Rattle.image.specs.Image.{controller_count}
use Rattle.header.proofs.controller_count.Goals as goal

pub returns : goal.returns
unfolding controller_count
returns c =
    c.byte_at.ensures
