-- Where no option is found, the dashes decide. Assumes nothing.
use mathlib.Core.Path.{sym, ◌∙◌, ap}
use mathlib.Core.Bool.{true, false}
use Rattle.rom.specs.Bytes.{pick}
use Rattle.console.specs.Options.{found_as_number}
use Rattle.console.proofs.OptionNamed.{by_dashes}
use Rattle.console.proofs.option.option_of.Goals as goal

pub returns-in-None-clause-role : goal.returns-in-None-clause-role
unfolding pick
returns-in-None-clause-role c =
    by_dashes _ {t = true} (sym (ap found_as_number c.in-None.is) ∙ c.named.ensures)
    (sym c.if-starts_with.true ∙ c.starts_with.ensures.value)

pub returns-in-None-2-clause-role : goal.returns-in-None-2-clause-role
unfolding pick
returns-in-None-2-clause-role c =
    by_dashes _ {t = false} (sym (ap found_as_number c.in-None.is) ∙ c.named.ensures)
    (sym c.if-starts_with.false ∙ c.starts_with.ensures.value)
