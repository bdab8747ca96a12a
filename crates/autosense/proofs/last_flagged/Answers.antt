-- The search from the last block finds the first in table order. Assumes nothing.
use Rattle.std.proofs.Common.{refl, rules, tests}
use Rattle.walk.specs.Walk.{flag_at}
use Rattle.autosense.proofs.Searches.{last_found}
use Rattle.autosense.proofs.last_flagged.Goals as goal

pub returns-clause-value : goal.returns-clause-value
returns-clause-value c =
    last_found (flag_at c.args.row.now) _ _ c.rfind.result refl c.rfind.ensures.ran (λ x b q k. search (rules, tests))
