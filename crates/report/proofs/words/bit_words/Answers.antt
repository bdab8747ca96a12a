-- At each turn the line and the names that are left are the whole. Assumes nothing.

use Rattle.text.specs.Written.{text_of}
use Rattle.text.proofs.Building.{begun}
use Rattle.report.proofs.Names.{two}
use Rattle.report.proofs.Bits.{set, clear, done}
use Rattle.report.proofs.words.bit_words.Goals as goal
use Rattle.report.proofs.words.bit_words.Goals.{then-bits-eq1, else-bits-eq1}

pub loop-name-init : goal.loop-name-init
loop-name-init c = begun c.args.line _

pub loop-name-preserved : goal.loop-name-preserved
loop-name-preserved c =
    let l = c.loop-name in
    elim c.if-bits-eq1.branch [
      | then-bits-eq1 w ↦ rw (w.line-is, w.before-is)
          (set _ _ _ l.bits l.name-index l.invariant c.loop-name-test.true _ w.if-bits-eq1.true
          (two (text_of l.line) _ _ w.text.ensures w.text-line.ensures))
      | else-bits-eq1 w ↦ rw (w.line-is, w.before-is)
          (clear _ _ _ l.bits l.name-index l.invariant c.loop-name-test.true c.args.first w.if-bits-eq1.false)
    ]

pub returns : goal.returns
returns c =
    let l = c.loop-name in
    done _ _ _ l.bits l.name-index l.invariant c.loop-name-test.false
