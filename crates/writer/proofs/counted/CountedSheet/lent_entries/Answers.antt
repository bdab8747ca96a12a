-- The three parts stand one behind the other. Assumes nothing.
use Rattle.std.proofs.Common.{ℕ, ◌*◌, ap, refl}
use Rattle.writer.proofs.Counting.{counted-parts, counted-entries}
use Rattle.writer.proofs.counted.CountedSheet.lent_entries.Goals as goal

pub invariant_of-result : goal.invariant_of-result
invariant_of-result c =
    record {
      parts = counted-parts c.args.self.counted refl (ap (λ (k : ℕ). 2 * k) c.from.ensures) c.from-2.ensures c.split_at.ensures.front
          c.split_at.ensures.back c.split_at-2.ensures.front c.split_at-2.ensures.back;
    }

pub returns : goal.returns
returns c =
    counted-entries c.args.self.counted refl (ap (λ (k : ℕ). 2 * k) c.from.ensures) c.from-2.ensures c.split_at.ensures.front
    c.split_at.ensures.back c.split_at-2.ensures.front c.split_at-2.ensures.back
