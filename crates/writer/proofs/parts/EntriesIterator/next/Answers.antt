-- The sizes say whether an entry is left; what is left of each part is kept. Assumes nothing.
use Rattle.std.proofs.Common.{ap, length, arith, rules}
use Rattle.writer.proofs.Left.{kind_fits, body_fits, parts_next, entries-next, entries-none}
use Rattle.writer.proofs.parts.EntriesIterator.next.Goals as goal

pub returns-in_err-size-clause-steps : goal.returns-in_err-size-clause-steps
returns-in_err-size-clause-steps c =
    let none = entries-none _ _ _ c.in_err-size.ensures.cases in
    rw c.from_residual.ensures (none, none)

pub split_at-requires : goal.split_at-requires
split_at-requires c =
    kind_fits c.args.self.now.parts c.in_ok-size.ensures.cases.0

pub split_at-requires-2 : goal.split_at-requires-2
split_at-requires-2 c =
    omega (arith, body_fits c.args.self.now.parts c.in_ok-size.ensures.cases.0, c.from.ensures)

pub invariant_of-self : goal.invariant_of-self
invariant_of-self c =
    record {
      parts = parts_next c.args.self.now.parts c.in_ok-size.ensures.cases.0
          c.split_at.ensures.back c.from.ensures c.split_at-2.ensures.back;
    }

pub returns-clause-steps : goal.returns-clause-steps
returns-clause-steps c =
    entries-next c.args.self.now.parts c.in_ok-size.ensures.cases.0 c.split_at.ensures.front c.split_at.ensures.back c.from.ensures
    c.split_at-2.ensures.front c.split_at-2.ensures.back c.word_at.ensures

pub returns-clause-goes : goal.returns-clause-goes
returns-clause-goes c =
    let shorter = ap length (returns-clause-steps c) in search rules
