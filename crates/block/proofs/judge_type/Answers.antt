-- The facts of each type, from the function that judges it. Assumes nothing.
use native.Mathlib.Omega.{arith}
use mathlib.Core.Path.{◌≡◌}
use lib.Dec.{lit≤}
use Rattle.rom.specs.Bytes.{pick}
use Rattle.format.specs.Block.{facts_of, sequence}
use Rattle.block.specs.Inside.{judged_as}
use Rattle.block.specs.Answer.{found}
use Rattle.block.proofs.Phy.{type-1, type-3}
use Rattle.block.proofs.judge_type.Goals as goal

pub judge_phy-requires : goal.judge_phy-requires
judge_phy-requires c =
    record {
      len_value = c.requires.len_value;
      unit_bound = (lit≤ tt, type-1 _);
    }

pub judge_phy-requires-in-3 : goal.judge_phy-requires-in-3
judge_phy-requires-in-3 c =
    record {
      len_value = c.requires.len_value;
      unit_bound = (lit≤ tt, type-3 _);
    }

pub returns-in-0 : goal.returns-in-0
unfolding judged_as facts_of found pick
returns-in-0 c =
    rw c.in-0.is c.judge_type_0.ensures

pub returns-in-1 : goal.returns-in-1
unfolding judged_as facts_of found pick
returns-in-1 c =
    rw c.in-1.is c.judge_phy.ensures

pub returns-in-2 : goal.returns-in-2
unfolding judged_as facts_of found pick
returns-in-2 c =
    rw c.in-2.is c.judge_type_2.ensures

pub returns-in-3 : goal.returns-in-3
unfolding judged_as facts_of found pick
returns-in-3 c =
    rw c.in-3.is c.judge_phy-in-3.ensures

pub returns-in-4 : goal.returns-in-4
unfolding judged_as facts_of found pick
returns-in-4 c =
    rw c.in-4.is c.judge_type_4.ensures

pub returns-in-5 : goal.returns-in-5
unfolding judged_as facts_of found pick
returns-in-5 c =
    rw c.in-5.is c.judge_type_5.ensures

pub returns-in_default : goal.returns-in_default
unfolding judged_as facts_of found pick sequence
returns-in_default c =
    let e : c.args.kind ≡ 6 = omega arith in rw e c.judge_type_6.ensures
