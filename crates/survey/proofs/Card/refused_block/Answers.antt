-- The header is refused, or the leaf that it names has the first refused block. Assumes nothing.
use Rattle.std.proofs.Common.{refl, ◌∙◌}
use Rattle.rom.proofs.Refusals.{not-accepted}
use Rattle.header.specs.Header.{no_header}
use Rattle.survey.proofs.Leaves.{no-leaf-refused, leaf-refused}
use Rattle.survey.proofs.Card.refused_block.Goals as goal

pub returns-in_default-clause-value : goal.returns-in_default-clause-value
unfolding no_header
returns-in_default-clause-value c =
    let a = c.args.self in no-leaf-refused a.image.now a.arguments _ c.in_default.ensures (not-accepted c.in_default.field-0)

pub returns-clause-value : goal.returns-clause-value
returns-clause-value c =
    let a = c.args.self in
    c.first_refused.ensures.value
    ∙ leaf-refused a.image.now a.arguments _ c.in-Ok.ensures refl _ c.up_to_leaves_end.ensures.result_value c.is_first_version.ensures
