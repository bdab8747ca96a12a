-- Each return is one of the laws of the extended form. Assumes nothing.
use Prim.Native.Nat.{◌<◌}
use native.Mathlib.Omega.{arith}
use borrow.Author.Tests.{not-true, not-false}
use borrow.Author.Rules.{rules}
use Rattle.rom.specs.Bytes.{byte_at}
use Rattle.format.specs.Block.{length_of}
use Rattle.block.proofs.Whole.{extended-past-end, extended-empty, extended-unknown, extended-not-permitted, extended-type}
use Rattle.block.proofs.Whole.{extended-fields}
use mathlib.Core.Path.{ap}
use mathlib.Core.Bool.{not}
use Rattle.block.proofs.judge_extended.Goals as goal

pub returns-then-rest-len : goal.returns-then-rest-len
unfolding length_of
returns-then-rest-len c =
    extended-past-end _ _ _ c.requires.0 c.requires.1 (rw c.count_at-len.ensures.0)
    c.if-rest-len.true

pub returns-then-len-eq0 : goal.returns-then-len-eq0
unfolding length_of
returns-then-len-eq0 c =
    extended-empty _ _ _ c.requires.0 c.requires.1
    (rw c.count_at-len.ensures.0) c.if-rest-len.false c.if-len-eq0.true

pub returns-then-level-kind : goal.returns-then-level-kind
unfolding length_of
returns-then-level-kind c =
    let byte : byte_at c.args.rest.now 1 < 256 =
    omega (arith, c.type_inv.rest 1) in
    extended-unknown _ _ _ c.requires.0
    c.requires.1 (rw c.count_at-len.ensures.0)
    c.if-rest-len.false c.if-len-eq0.false byte c.if-level-kind.true

pub returns-then-not-is_permitted : goal.returns-then-not-is_permitted
unfolding length_of
returns-then-not-is_permitted c =
    let byte : byte_at c.args.rest.now 1 < 256 =
    omega (arith, c.type_inv.rest 1) in
    extended-not-permitted _ _ _ c.requires.0
    c.requires.1
    (rw c.count_at-len.ensures.0)
    c.if-rest-len.false c.if-len-eq0.false byte
    c.if-level-kind.false (rw c.from.ensures at c.is_permitted.ensures) (not-true _ (ap not c.if-not-is_permitted.true))

pub judge_type-requires : goal.judge_type-requires
unfolding length_of
judge_type-requires c =
    let byte : byte_at c.args.rest.now 1 < 256 =
    omega (arith, c.type_inv.rest 1) in
    record {
      len_value = (rw c.count_at-len.ensures.0, search rules);
      kind_lt_newest_level = extended-type c.args.level
          c.args.row
          c.args.rest.now
          c.requires.0
          c.requires.1
          (rw c.count_at-len.ensures.0)
          c.if-rest-len.false c.if-len-eq0.false byte
          c.if-level-kind.false (rw c.from.ensures at c.is_permitted.ensures) (not-false _ (ap not c.if-not-is_permitted.false));
    }

pub returns : goal.returns
unfolding length_of
returns c =
    let byte : byte_at c.args.rest.now 1 < 256 =
    omega (arith, c.type_inv.rest 1) in
    extended-fields _ _ _ c.requires.0
    c.requires.1
    (rw c.count_at-len.ensures.0)
    c.if-rest-len.false c.if-len-eq0.false byte
    c.if-level-kind.false (rw c.from.ensures at c.is_permitted.ensures) (not-false _ (ap not c.if-not-is_permitted.false))
    c.judge_type.ensures
