-- The version byte, compared. Assumes nothing.
use mathlib.Core.Path.{ap}
use Prim.Native.Nat.{ℕ}
use lib.Dec.{eqb}
use Rattle.image.specs.Image.{is_first_version}
use Rattle.header.proofs.is_first_version.Goals as goal

pub returns : goal.returns
unfolding is_first_version
returns c =
    ap (λ (n : ℕ). eqb n 1) c.byte_at.ensures
