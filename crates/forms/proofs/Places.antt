-- Where a form's further places count from. Assumes nothing.
use Prim.Native.Nat.{◌≤◌}
use native.Mathlib.Omega.{arith}
use Rattle.sheet.specs.declared.Form.{Form}
use Rattle.sheet.specs.declared.Form.TheVariants.{Narrow, Wide}
use Rattle.sheet.specs.Form.{shift}

pub shift_small : (form : Form) → shift form ≤ 2
shift_small Narrow = omega arith
shift_small Wide = omega arith
