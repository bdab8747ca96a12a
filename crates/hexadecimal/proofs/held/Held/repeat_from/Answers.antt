-- What is left to repeat makes the whole of what there is. Assumes nothing.
use Rattle.std.proofs.Common.{◌≡◌, ◌+◌, ◌-◌, arith, ◌∙◌}
use Rattle.hexadecimal.proofs.Steps.{repeat-more}
use Rattle.hexadecimal.proofs.held.Held.repeat_from.Goals as goal

pub loop-at-preserved : goal.loop-at-preserved
loop-at-preserved c =
    let l = c.loop-at in
    let end = c.args.start + c.args.count in
    let n : end - (l.at + 1) ≡ end - l.at - 1 = omega arith in
    rw (n, c.push.ensures, c.byte.ensures) (repeat-more l.at (end - l.at) l.self (omega arith) ∙ l.invariant)
