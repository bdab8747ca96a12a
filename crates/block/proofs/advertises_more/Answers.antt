-- The code's mask of five bits is the definition's five tests. Assumes nothing.
use native.Mathlib.Omega.{arith}
use Rattle.block.proofs.Advertised.{exceeds-masked}
use Rattle.block.proofs.advertises_more.Goals as goal

pub returns : goal.returns
returns c =
    exceeds-masked _ _ (omega arith)
