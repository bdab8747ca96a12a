-- At each turn the line and what the rest of the pattern says with the values left are the whole. Assumes nothing.
use Rattle.std.proofs.Common.{drop-cons, drop_of_length-le, add-one, refl, sym, ap, ◌∙◌}
use Rattle.std.specs.Option.{unwrap_or}
use Rattle.text.specs.Written.{with_values}
use Rattle.text.proofs.Building.{line-finished}
use Rattle.text.proofs.Patterns.{next_or_zero, with-mark, with-byte}
use Rattle.text.proofs.line.Line.with.Goals as goal
use Rattle.text.proofs.line.Line.with.Goals.{then-is_mark, else-is_mark}

pub loop-byte-preserved : goal.loop-byte-preserved
loop-byte-preserved c =
    let l = c.loop-byte in
    let b = rw (drop-cons c.args.pattern.now l.byte-index 0 c.loop-byte-test.true) at l.invariant in
    elim c.if-is_mark.branch [
      | then-is_mark w ↦ (
          let n = next_or_zero _ _ _ w.next.ensures.steps in
          rw (w.self-is, w.values-is, add-one)
          (with-mark _ _ _ _ _ b (sym c.is_mark.ensures ∙ w.if-is_mark.true)
          (w.unwrap_or.ensures ∙ ap (λ r. unwrap_or r 0) w.copied.ensures ∙ n.0) n.1 w.value-self.ensures))
      | else-is_mark w ↦
          rw (w.self-is, w.values-is, add-one)
          (with-byte _ _ _ _ _ b (sym c.is_mark.ensures ∙ w.if-is_mark.false) w.byte-self.ensures)
    ]

pub returns : goal.returns
unfolding with_values
returns c = line-finished _ (rw (drop_of_length-le c.args.pattern.now c.loop-byte-test.false) refl) c.loop-byte.invariant
