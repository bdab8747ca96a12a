-- What the code's tally answers, as the definitions have it.
use Rattle.std.specs.Prelude.{Result, Ok, Err}
use Rattle.rom.specs.declared.refusal.Refusal.{Refusal}
use Rattle.rom.specs.Numbers.{refusal_number, number_or_none}
use Rattle.leaf.specs.Tally.{TallyAnswer, no_tally}
use Rattle.tally.specs.declared.sorts.Tally.{Tally}

abbrev pub counted : Tally → TallyAnswer
counted t = record {
  number = 0;
  listed = t.listed;
  resets = t.resets;
  skipped = t.skipped;
  power = t.power;
  phy_resets = t.phy_resets;
  defaults = t.defaults;
  default_number = number_or_none t.default_number;
}

abbrev pub tally_answer : Result Tally Refusal → TallyAnswer
tally_answer (Ok t) = counted t
tally_answer (Err r) = no_tally (refusal_number r)
