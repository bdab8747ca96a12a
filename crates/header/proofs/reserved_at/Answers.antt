-- A count is below 256. Assumes nothing.
use Rattle.image.specs.Image.{reserved_at}
use native.Mathlib.Omega.{arith}
use Rattle.header.proofs.reserved_at.Goals as goal

pub returns : goal.returns
unfolding reserved_at
returns c =
    (omega arith, omega arith)
