-- The length decides, and then the sum. Assumes nothing.
use Rattle.std.proofs.Common.{◌∙◌}
use Rattle.forms.proofs.Sums.{wrong-length, sum-decides}
use Rattle.forms.proofs.RawSheet.is_sheet.Goals as goal

pub returns-then-self-bodies : goal.returns-then-self-bodies
returns-then-self-bodies c =
    sum-decides _ _ _ _ _ c.shift-start.ensures (c.from-count.ensures ∙ c.count.ensures.0)
    (c.from-total.ensures ∙ c.total.ensures) _ c.if-self-bodies.true c.sum_of.ensures

pub returns-else-self-bodies : goal.returns-else-self-bodies
returns-else-self-bodies c =
    wrong-length _ _ _ _ _ c.shift-start.ensures (c.from-count.ensures ∙ c.count.ensures.0)
    (c.from-total.ensures ∙ c.total.ensures) c.if-self-bodies.false
