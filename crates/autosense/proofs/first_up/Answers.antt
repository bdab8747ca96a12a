-- The search from the last block finds the first in table order. Assumes nothing.
use Rattle.std.proofs.Common.{◌&&◌, refl, rules, tests}
use Rattle.walk.specs.Walk.{is_candidate, is_up, first_up}
use Rattle.autosense.proofs.Searches.{last_found}
use Rattle.autosense.proofs.first_up.Goals as goal

pub returns-clause-value : goal.returns-clause-value
unfolding first_up
returns-clause-value c =
    let rows = c.args.rows.now in
    last_found (λ k. is_candidate rows.listed rows.active_invalid c.args.settled k && is_up c.args.report.now k) _ _ c.rfind.result refl
    c.rfind.ensures.ran (λ x b q k. search (rules, tests))
