-- At each turn the line and what the rest of the pattern says are the whole. Assumes nothing.
use Rattle.std.proofs.Common.{refl, sym, ap, ◌∙◌}
use Rattle.std.proofs.lemmas.List.{nil_from_length}
use Rattle.std.specs.Option.{unwrap_or}
use Rattle.text.specs.Numbers.{digit_of}
use Rattle.text.specs.Written.{fields_from}
use Rattle.text.proofs.Building.{line-finished}
use Rattle.text.proofs.Patterns.{next_or_zero, field-mark, field-byte}
use Rattle.text.proofs.pattern.fields.Goals as goal

pub loop-byte-preserved-then-is_mark : goal.loop-byte-preserved-then-is_mark
loop-byte-preserved-then-is_mark c =
    let b = rw c.in-Some.ensures.steps at c.loop-byte.invariant in
    let n = next_or_zero _ _ _ c.next-then-is_mark.ensures.steps in
    let place = c.unwrap_or-place.ensures ∙ ap (λ r. unwrap_or r 0) c.copied.ensures ∙ n.0 in
    field-mark _ _ _ _ _ b (sym c.is_mark.ensures ∙ c.if-is_mark.true)
    (c.from.ensures ∙ c.unwrap_or-at.ensures ∙ c.digit.ensures.value ∙ ap digit_of place)
    c.value_of.ensures n.1 c.value-line.ensures

pub loop-byte-preserved : goal.loop-byte-preserved
loop-byte-preserved c =
    field-byte _ _ _ _ _ (rw c.in-Some.ensures.steps at c.loop-byte.invariant)
    (sym c.is_mark.ensures ∙ c.if-is_mark.false) c.byte-line.ensures

pub returns : goal.returns
unfolding fields_from
returns c = line-finished _ (rw (nil_from_length _ c.in_default.ensures.steps.0) refl) c.loop-byte.invariant
