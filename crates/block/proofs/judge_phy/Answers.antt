-- The counts that are read give the length and the place of the capabilities; a unit is at most two bytes, so no sum is large. Assumes
-- nothing.
use native.Mathlib.Omega.{arith}
use mathlib.Core.Path.{refl, ◌∙◌}
use Rattle.format.specs.Block.{phy}
use Rattle.block.proofs.Judged.{wrong-length, too_much, fine}
use Rattle.block.proofs.Phy.{few, counts-wrong, counts-right, advertised, phy-listed}
use Rattle.block.proofs.judge_phy.Goals as goal

pub overflow_mul-general : goal.overflow_mul-general
overflow_mul-general c =
    omega (arith, few c.requires.unit_bound.0 c.count_at.ensures.1)

pub overflow_add-general : goal.overflow_add-general
overflow_add-general c =
    omega (arith, few c.requires.unit_bound.0 c.count_at.ensures.1)

pub overflow_mul-sequences : goal.overflow_mul-sequences
overflow_mul-sequences c =
    omega (arith, few c.requires.unit_bound.0 c.count_at-resets.ensures.1)

pub overflow_add-sequences : goal.overflow_add-sequences
overflow_add-sequences c =
    omega (
      arith,
      few c.requires.unit_bound.0 c.count_at.ensures.1,
      few c.requires.unit_bound.0 c.count_at-resets.ensures.1,
    )

pub overflow_add-unit-2 : goal.overflow_add-unit-2
overflow_add-unit-2 c =
    omega (
      arith,
      few c.requires.unit_bound.0 c.count_at.ensures.1,
      few c.requires.unit_bound.0 c.count_at-resets.ensures.1,
    )

pub returns-then-len-unit : goal.returns-then-len-unit
unfolding phy
returns-then-len-unit c =
    wrong-length _ _
    (counts-wrong _ _ c.count_at.ensures.0 c.count_at-resets.ensures.0 _
    c.requires.len_value.0 c.requires.unit_bound.1 c.if-len-unit.true)

pub returns-then-advertises_more : goal.returns-then-advertises_more
unfolding phy
returns-then-advertises_more c =
    too_much _ _
    (counts-right _ _ c.count_at.ensures.0
    c.count_at-resets.ensures.0 _
    c.requires.len_value.0
    c.requires.unit_bound.1 c.if-len-unit.false) refl
    (advertised _ _ c.count_at.ensures.0
    c.count_at-resets.ensures.0 c.word_at-capabilities.ensures
    c.word_at-advertisement.ensures c.advertises_more.ensures ∙ c.if-advertises_more.true)

pub returns : goal.returns
unfolding phy
returns c =
    phy-listed _ _ c.count_at.ensures.0
    c.count_at-resets.ensures.0 _ _ c.word_at-capabilities.ensures ∙
    fine _ _
    (counts-right _ _ c.count_at.ensures.0
    c.count_at-resets.ensures.0 _
    c.requires.len_value.0
    c.requires.unit_bound.1 c.if-len-unit.false) refl
    (advertised _ _ c.count_at.ensures.0
    c.count_at-resets.ensures.0 c.word_at-capabilities.ensures
    c.word_at-advertisement.ensures c.advertises_more.ensures ∙ c.if-advertises_more.false)
