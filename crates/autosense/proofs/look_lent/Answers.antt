-- Past all refusals it is a step. Assumes nothing.
use Rattle.std.proofs.Common.{◌≡◌, not, MatchOption, Some, refl, ap, sym, ◌∙◌, rules, arith}
use borrow.Author.Tests.{ne_eqb}
use lib.Dec.{lit<}
use Rattle.rom.proofs.First.{none_here}
use Rattle.rom.proofs.Reached.{reached, skip, end}
use Rattle.walk.specs.Walk.{look_causes, sensed}
use Rattle.walk.proofs.Looks.{look-done}
use Rattle.autosense.specs.Inside.{choice_from}
use Rattle.autosense.proofs.Steps.{chosen_from, stepped_from}
use Rattle.autosense.proofs.look_lent.Goals as goal

pub returns : goal.returns
unfolding look_causes
returns c =
    let w = c.args.walk.now in
    let report = c.args.report.now in
    let block = c.or_else-block.result in
    let sense : MatchOption c.in_ok-fixed.fixed (choice_from w block ≡ sensed w report) (λ k. block ≡ Some k) = search rules in
    let counted = rw c.in_ok-looks.ensures.ok_part at c.checked_add.ensures in
    look-done w report 0
    (reached
    (skip (ap not c.if-not-walk.false)
    (skip (none_here _ _ (lit< tt) (sym c.in_ok-fixed.ensures.number)).0
    (skip (ne_eqb _ _ (omega arith)) (skip (sym c.bad_report.ensures ∙ c.if-bad_report.false) end)))))
    _ refl
    (stepped_from w report block (chosen_from w report c.in_ok-fixed.fixed block (c.in_ok-fixed.ensures.block report) sense)
    (search rules) c.unwrap_or-selected.ensures (omega arith) c.count_switch-walk.ensures)
