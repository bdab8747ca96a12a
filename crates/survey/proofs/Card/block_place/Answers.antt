-- The header is refused, or the leaf that it names has no such block, or the block is found there. Assumes nothing.
use Rattle.std.proofs.Common.{arith, refl, ◌∙◌}
use Rattle.rom.proofs.Layouts.{geometry}
use Rattle.rom.proofs.Refusals.{not-accepted}
use Rattle.header.specs.Header.{no_header}
use Rattle.header.proofs.Headers.{read-start}
use Rattle.survey.proofs.Leaves.{no-leaf-place, no-leaf-block, no-block-place, no-block-there, block-stands, block-there}
use Rattle.survey.proofs.Card.block_place.Goals as goal

pub returns-in_default : goal.returns-in_default
unfolding no_header
returns-in_default c =
    let a = c.args.self in
    let refused = not-accepted c.in_default.field-0 in
    record {
      value = no-leaf-place a.image.now a.arguments _ c.in_default.ensures refused c.args.number;
      found = no-leaf-block a.image.now a.arguments _ c.in_default.ensures refused c.args.number;
    }

pub returns-then-header-number : goal.returns-then-header-number
returns-then-header-number c =
    let a = c.args.self in
    record {
      value = no-block-place a.image.now a.arguments _ c.in-Ok.ensures refl c.args.number c.if-header-number.true;
      found = no-block-there a.image.now a.arguments _ c.in-Ok.ensures refl c.args.number c.if-header-number.true;
    }

pub find_place-requires : goal.find_place-requires
find_place-requires c =
    let a = c.args.self in
    let g = geometry a.arguments.layout in
    omega (arith, read-start a.image.now a.arguments _ c.in-Ok.ensures refl)

pub returns : goal.returns
returns c =
    let a = c.args.self in
    record {
      value = c.find_place.ensures
          ∙ block-stands a.image.now a.arguments _ c.in-Ok.ensures refl _ c.up_to_leaves_end-rest.ensures.result_value c.args.number
          c.if-header-number.false;
      found = block-there a.image.now a.arguments _ c.in-Ok.ensures refl c.args.number c.if-header-number.false;
    }
