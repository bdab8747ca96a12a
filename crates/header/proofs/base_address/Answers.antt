-- Six bytes, each below 256. Assumes nothing.
use Rattle.image.specs.Image.{base_address}
use native.Mathlib.Omega.{arith}
use Rattle.header.proofs.base_address.Goals as goal

pub returns : goal.returns
unfolding base_address
returns c =
    (omega arith, omega arith)
