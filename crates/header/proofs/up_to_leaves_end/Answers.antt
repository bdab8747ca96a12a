-- The part that the definition cuts out, whatever ends first. Assumes nothing.
use Rattle.std.proofs.Common.{rules}
use Rattle.image.specs.Image.{up_to_leaves_end}
use Rattle.header.proofs.Headers.{rest-clamped}
use Rattle.header.proofs.up_to_leaves_end.Goals as goal

pub returns-clause-result_value : goal.returns-clause-result_value
unfolding up_to_leaves_end
returns-clause-result_value c =
    rest-clamped c.args.image.now _ c.args.start c.min-first.ensures (rw c.leaves_end.ensures at c.clamp-end.ensures)
