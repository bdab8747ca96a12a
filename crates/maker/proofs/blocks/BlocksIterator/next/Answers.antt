-- The count says whether a block is left; the next one starts behind it. Assumes nothing.
use Rattle.std.proofs.Common.{ap, length, arith, rules}
use Rattle.maker.proofs.Turns.{blocks-none, size-fits, next-inside, left-accepted, opening-fits, first-block}
use Rattle.maker.proofs.blocks.BlocksIterator.next.Goals as goal

pub returns-then-self-eq0-clause-steps : goal.returns-then-self-eq0-clause-steps
returns-then-self-eq0-clause-steps c =
    let none = blocks-none _ _ _ _ c.if-self-eq0.true in (none, none)

pub slice_bounds-body-end : goal.slice_bounds-body-end
slice_bounds-body-end c =
    let b = c.args.self.now in size-fits _ _ _ _ b.inside b.accepted c.if-self-eq0.false c.size_at-size.ensures

pub slice_bounds-body-count : goal.slice_bounds-body-count
slice_bounds-body-count c =
    let b = c.args.self.now in
    opening-fits _ _ _ _ b.inside b.accepted c.if-self-eq0.false c.size_at-size.ensures c.opening_length-opening.ensures

pub slice_bounds-body-start : goal.slice_bounds-body-start
slice_bounds-body-start = slice_bounds-body-count

pub overflow_add-self : goal.overflow_add-self
overflow_add-self c =
    let b = c.args.self.now in omega (arith, next-inside _ _ _ _ b.inside b.accepted c.if-self-eq0.false c.size_at-size.ensures)

pub returns-clause-steps : goal.returns-clause-steps
returns-clause-steps c =
    let b = c.args.self.now in
    first-block _ _ _ _ b.inside b.accepted c.if-self-eq0.false c.size_at-size.ensures c.opening_length-opening.ensures
    c.kind_at-kind.ensures

pub invariant_of-self : goal.invariant_of-self
invariant_of-self c =
    let b = c.args.self.now in
    record {
      inside = next-inside _ _ _ _ b.inside b.accepted c.if-self-eq0.false c.size_at-size.ensures;
      accepted = left-accepted _ _ _ _ b.inside b.accepted c.if-self-eq0.false c.size_at-size.ensures;
    }

pub returns-clause-goes : goal.returns-clause-goes
returns-clause-goes c =
    let shorter = ap length (returns-clause-steps c) in search rules
