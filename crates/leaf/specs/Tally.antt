-- What judging a leaf's blocks answers: how many there are of each sort, each counted by its own rule.
use Rattle.std.specs.Prelude.{ℕ, List, Bool, eqb}
use Rattle.rom.specs.Bytes.{pick}
use Rattle.rom.specs.Refusal.{first_met}
use Rattle.format.specs.Block.{is_listed, is_reset, is_power, is_skipped, is_default, resets_a_phy}
use Rattle.leaf.specs.Leaf.{count_of, first_from, leaf_causes}

pub record TallyAnswer : Type 0 where
  pub number : ℕ
  pub listed : ℕ
  pub resets : ℕ
  pub skipped : ℕ
  pub power : ℕ
  pub phy_resets : ℕ
  pub defaults : ℕ
  pub default_number : ℕ

-- a refusal's number and zeros
unfoldable pub no_tally : ℕ → TallyAnswer
no_tally n = record { number = n; listed = 0; resets = 0; skipped = 0; power = 0; phy_resets = 0; defaults = 0; default_number = 0 }

unfoldable pub counts : ℕ → ℕ → List (List ℕ) → TallyAnswer
counts row level bs = record {
  number = 0;
  listed = count_of (is_listed row level) bs;
  resets = count_of (is_reset row level) bs;
  skipped = count_of (is_skipped row level) bs;
  power = count_of (is_power row level) bs;
  phy_resets = count_of (resets_a_phy row level) bs;
  defaults = count_of (is_default row level) bs;
  default_number = first_from (is_default row level) 0 bs;
}

-- `first` is whether the image is of version 1
unfoldable pub tally_of : Bool → ℕ → ℕ → List (List ℕ) → TallyAnswer
tally_of first row level bs =
    pick (eqb (first_met (leaf_causes first row level bs)) 0) (counts row level bs) (no_tally (first_met (leaf_causes first row level bs)))
