-- Each turn counts one block, and what is counted and what is left make up the whole. Assumes nothing.
use Rattle.std.proofs.Common.{rules, arith, refl}
use native.Mathlib.Nat.{sub-zero}
use Rattle.std.proofs.lemmas.Result.{err_from_is_err_and}
use Rattle.rom.proofs.Refusals.{not-accepted}
use Rattle.leaf.specs.Tally.{no_tally}
use Rattle.tally.proofs.Modes.{modes-start}
use Rattle.tally.proofs.Counts.{counted_start, judge-refused, judge-fits, judge-more, judge-modes, judge-18, judge-31, judge-done}
use Rattle.tally.proofs.judge.Goals as goal

pub loop-number-init : goal.loop-number-init
loop-number-init c = record {
  counted = rw (c.new-tally.ensures, sub-zero) (counted_start _ _ _ _);
  modes = rw sub-zero (modes-start _ _ _);
}

pub returns-in_err-block : goal.returns-in_err-block
unfolding no_tally
returns-in_err-block c =
    let e = err_from_is_err_and c.from_residual.result c.from_residual.ensures.1 in
    rw (e.1, e.2)
    (judge-refused _ _ _ _ _ c.loop-number.invariant.counted c.loop-number-test.true c.in_err-block.ensures refl
    (not-accepted c.in_err-block.field-0.0))

pub slice_bounds-rest-count : goal.slice_bounds-rest-count
slice_bounds-rest-count c =
    omega (
      arith,
      judge-fits _ _ _ _ _ c.loop-number.invariant.counted c.loop-number-test.true c.in_ok-block.ensures c.with-tally.ensures refl
          c.size-size.ensures,
    )

pub slice_bounds-rest-start : goal.slice_bounds-rest-start
slice_bounds-rest-start = slice_bounds-rest-count

pub loop-number-preserved : goal.loop-number-preserved
loop-number-preserved c = let inv = c.loop-number.invariant in record {
  counted = judge-more _ _ _ _ _ inv.counted c.loop-number-test.true c.in_ok-block.ensures c.with-tally.ensures refl c.size-size.ensures
      c.ranges.count.fits;
  modes = judge-modes _ _ _ _ _ inv.counted c.loop-number-test.true c.in_ok-block.ensures c.with-tally.ensures refl c.size-size.ensures
      inv.modes c.mode-mode.ensures (search rules);
}

pub returns-then-clashes : goal.returns-then-clashes
returns-then-clashes c =
    judge-18 _ _ _ _ _ c.loop-number.invariant.counted c.loop-number-test.false c.clashes.ensures c.if-clashes.true refl

pub returns-then-repeated-ne0 : goal.returns-then-repeated-ne0
returns-then-repeated-ne0 c =
    judge-31 _ _ _ _ _ c.loop-number.invariant.counted c.loop-number-test.false c.clashes.ensures c.if-clashes.false
    c.loop-number.invariant.modes c.if-repeated-ne0.true refl

pub returns : goal.returns
returns c =
    grind (
      arith,
      judge-done _ _ _ _ _ c.loop-number.invariant.counted c.loop-number-test.false c.clashes.ensures c.if-clashes.false
          c.loop-number.invariant.modes c.if-repeated-ne0.false,
    )
