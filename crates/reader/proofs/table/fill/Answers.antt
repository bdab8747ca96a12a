-- Each turn stores one block's entry, and the table of the blocks that are left completes the arrays. Assumes nothing.
use borrow.Author.Rules.{rules}
use Prim.Native.Nat.{◌≤◌}
use native.Mathlib.Omega.{arith}
use native.Mathlib.Nat.{le_refl}
use mathlib.Core.Path.{refl}
use lib.ListN.{length}
use Rattle.leaf.specs.Leaf.{table_of}
use Rattle.leaf.proofs.Cuts.{next-refusal, next_fits, part-ends}
use Rattle.leaf.proofs.Stepping.{passing-first}
use Rattle.reader.proofs.Filling.{fill-place, fill_more, fill_done}
use Rattle.reader.proofs.table.fill.Goals as goal

pub loop-passed-init : goal.loop-passed-init
unfolding table_of
loop-passed-init c =
    let a = c.requires in (
      record {
        passing = passing-first a.blocks_value;
        filled =
            record {
              kinds = refl;
              offsets = refl;
              places = a.listed_value;
              room-k = a.listed_in_bounds.0;
              room-o = a.listed_in_bounds.1;
              same-k = refl;
              same-o = refl;
            };
      },
      search rules,
      le_refl _,
    )

pub place-free-requires : goal.place-free-requires
place-free-requires c =
    let l = c.loop-passed in (
      fill-place _ _ _ _ _ _ l.invariant.0 c.loop-passed-test.true c.accepted_block-block.ensures,
      l.invariant.0.filled.room-k,
      l.invariant.0.filled.room-o,
      omega (arith, l.invariant.2, c.requires.listed_in_bounds),
    )

pub accepted_block-block-requires : goal.accepted_block-block-requires
accepted_block-block-requires c = next-refusal _ _ _ _ c.loop-passed.invariant.0.passing.accepted c.loop-passed-test.true

pub slice_bounds-rest-count : goal.slice_bounds-rest-count
slice_bounds-rest-count c =
    next_fits _ _ _ _ c.loop-passed.invariant.0.passing.accepted c.loop-passed-test.true c.accepted_block-block.ensures
    c.size-size.ensures

pub slice_bounds-rest-start : goal.slice_bounds-rest-start
slice_bounds-rest-start = slice_bounds-rest-count

pub slice_bounds-rest-end : goal.slice_bounds-rest-end
slice_bounds-rest-end c =
    le_refl _

pub overflow_add-at : goal.overflow_add-at
overflow_add-at c =
    let f : c.size-size.result ≤ length c.loop-passed.rest.now =
    next_fits _ _ _ _ c.loop-passed.invariant.0.passing.accepted c.loop-passed-test.true c.accepted_block-block.ensures
    c.size-size.ensures in
    omega (
      arith,
      c.loop-passed.invariant.2,
      c.requires.listed_in_bounds,
    )

pub loop-passed-preserved : goal.loop-passed-preserved
loop-passed-preserved c =
    let l = c.loop-passed in
    let t = c.loop-passed-test.true in
    let z = c.size-size.ensures in
    let p = c.place-free.ensures in (
      fill_more _ _ _ _ _ _ l.invariant.0 t c.accepted_block-block.ensures z p.value p.kinds_after p.offsets_after,
      search rules,
      part-ends l.rest.now l.at _ (next_fits _ _ _ _ l.invariant.0.passing.accepted t c.accepted_block-block.ensures z) l.invariant.2,
    )

pub shape_of-kinds : goal.shape_of-kinds
shape_of-kinds c =
    c.loop-passed.invariant.0.filled.same-k

pub shape_of-offsets : goal.shape_of-offsets
shape_of-offsets c =
    c.loop-passed.invariant.0.filled.same-o

pub returns : goal.returns
returns c =
    let both = fill_done _ _ _ _ _ _ c.loop-passed.invariant.0 c.loop-passed-test.false in
    record { kinds_after = both.0; offsets_after = both.1 }
