-- What the contracts of inner functions cite: how the tally grows, block by block.
use Rattle.std.specs.Prelude.{ℕ, ◌+◌, Bool, eqb}
use Rattle.rom.specs.Geometry.{none}
use Rattle.rom.specs.Bytes.{pick, one}
use Rattle.block.specs.Answer.{Verdict}
use Rattle.block.specs.Answer.{Listed, Reset, Power, Unknown, Refused}
use Rattle.leaf.specs.Tally.{TallyAnswer}
use Rattle.leaf.specs.Tally.{no_tally}

unfoldable pub start_tally : TallyAnswer
start_tally = record { number = 0; listed = 0; resets = 0; skipped = 0; power = 0; phy_resets = 0; defaults = 0; default_number = none }

-- the number of the first default, where `old` is that of the blocks before, or none
unfoldable pub first_number : ℕ → Bool → ℕ → ℕ
first_number old marked number = pick (eqb old none) (pick marked number none) old

-- with block `number` more; a refused one's number and zeros
abbrev pub plus : TallyAnswer → Verdict → ℕ → TallyAnswer
plus t (Listed m) number = record {
  number = t.number;
  listed = t.listed + 1;
  resets = t.resets;
  skipped = t.skipped;
  power = t.power;
  phy_resets = t.phy_resets + one m.resets_phy;
  defaults = t.defaults + one m.is_default;
  default_number = first_number t.default_number m.is_default number;
}
plus t (Reset size) number =
    record {
      number = t.number;
      listed = t.listed;
      resets = t.resets + 1;
      skipped = t.skipped;
      power = t.power;
      phy_resets = t.phy_resets;
      defaults = t.defaults;
      default_number = t.default_number;
    }
plus t (Power size mode) number =
    record {
      number = t.number;
      listed = t.listed;
      resets = t.resets;
      skipped = t.skipped;
      power = t.power + 1;
      phy_resets = t.phy_resets;
      defaults = t.defaults;
      default_number = t.default_number;
    }
plus t (Unknown size) number =
    record {
      number = t.number;
      listed = t.listed;
      resets = t.resets;
      skipped = t.skipped + 1;
      power = t.power;
      phy_resets = t.phy_resets;
      defaults = t.defaults;
      default_number = t.default_number;
    }
plus t (Refused n) number = no_tally n
