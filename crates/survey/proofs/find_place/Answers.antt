-- Each turn is one step more from the first block. Assumes nothing.
use Rattle.std.proofs.Common.{rules, arith}
use Rattle.block.proofs.Whole.{size_small}
use Rattle.leaf.proofs.Stepping.{stands-first, stands-more}
use Rattle.survey.proofs.Stepping.{find-done}
use Rattle.survey.proofs.find_place.Goals as goal

pub loop-init : goal.loop-init
loop-init c = (stands-first _ _ _, search rules)

pub overflow_add-at : goal.overflow_add-at
overflow_add-at c = omega (arith, size_small c.args.row c.loop.rest.now)

pub loop-preserved : goal.loop-preserved
loop-preserved c = (
  stands-more _ _ _ _ _ _ c.loop.invariant.0 c.size_at-size.ensures c.behind-rest.ensures,
  omega (arith, size_small c.args.row c.loop.rest.now),
)

pub overflow_cast-result-2 : goal.overflow_cast-result-2
overflow_cast-result-2 c = omega (arith, size_small c.args.row c.loop.rest.now)

pub returns : goal.returns
returns c = find-done _ _ _ _ c.loop.invariant.0 (omega arith) c.size_at.ensures c.kind_at.ensures
