-- There is no such entry, or it is that of the block which has as many entries behind it. Assumes nothing.
use borrow.Author.Rules.{rules}
use Prim.Native.Nat.{◌≤◌}
use native.Mathlib.Omega.{arith}
use native.Mathlib.Nat.{le_refl}
use mathlib.Core.Path.{refl, sym}
use lib.ListN.{length}
use Rattle.leaf.specs.Leaf.{table_of}
use Rattle.leaf.proofs.Cuts.{next-refusal, next_fits, part-ends}
use Rattle.leaf.proofs.Stepping.{passing-first}
use Rattle.reader.proofs.Entries.{part_none}
use Rattle.reader.proofs.Finding.{find-behind, find-here, find-more, find-never}
use Rattle.reader.proofs.table.find.Goals as goal

pub returns-then-listed-entry : goal.returns-then-listed-entry
returns-then-listed-entry c =
    sym (part_none _ _ _ (omega (arith, c.requires.listed_value.0)))

pub loop-passed-init : goal.loop-passed-init
unfolding table_of
loop-passed-init c =
    let a = c.requires in (
      record {
        passing = passing-first a.blocks_value;
        kept = record { counted = a.listed_value.0; there = c.if-listed-entry.false; same = refl };
      },
      search rules,
      le_refl _,
    )

pub overflow_sub-behind : goal.overflow_sub-behind
overflow_sub-behind c =
    find-behind _ _ _ _ _ _ c.loop-passed.invariant.0 c.loop-passed-test.true c.accepted_block-block.ensures
    c.entries-behind.ensures

pub returns-then-behind-entry : goal.returns-then-behind-entry
returns-then-behind-entry c =
    find-here _ _ _ _ _ _ c.loop-passed.invariant.0 c.loop-passed-test.true c.accepted_block-block.ensures
    c.size-size.ensures c.entries-behind.ensures c.if-behind-entry.true

pub accepted_block-block-requires : goal.accepted_block-block-requires
accepted_block-block-requires c = next-refusal _ _ _ _ c.loop-passed.invariant.0.passing.accepted c.loop-passed-test.true

pub slice_bounds-rest-count : goal.slice_bounds-rest-count
slice_bounds-rest-count c =
    next_fits _ _ _ _ c.loop-passed.invariant.0.passing.accepted c.loop-passed-test.true c.accepted_block-block.ensures
    c.size-size.ensures

pub slice_bounds-rest-start : goal.slice_bounds-rest-start
slice_bounds-rest-start = slice_bounds-rest-count

pub slice_bounds-rest-end : goal.slice_bounds-rest-end
slice_bounds-rest-end c =
    le_refl _

pub overflow_add-at : goal.overflow_add-at
overflow_add-at c =
    let f : c.size-size.result ≤ length c.loop-passed.rest.now =
    next_fits _ _ _ _ c.loop-passed.invariant.0.passing.accepted c.loop-passed-test.true c.accepted_block-block.ensures
    c.size-size.ensures in
    omega (arith, c.loop-passed.invariant.2, c.requires.listed_value.1)

pub loop-passed-preserved : goal.loop-passed-preserved
loop-passed-preserved c =
    let l = c.loop-passed in
    let t = c.loop-passed-test.true in
    let z = c.size-size.ensures in (
      find-more _ _ _ _ _ _ l.invariant.0 t c.accepted_block-block.ensures z c.entries-behind.ensures c.if-behind-entry.false,
      search rules,
      part-ends l.rest.now l.at _ (next_fits _ _ _ _ l.invariant.0.passing.accepted t c.accepted_block-block.ensures z) l.invariant.2,
    )

pub unreachable-requires : goal.unreachable-requires
unreachable-requires c =
    (find-never _ _ _ _ _ _ c.loop-passed.invariant.0 c.loop-passed-test.false)
