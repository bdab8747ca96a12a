-- The first refusal of the header, of the room or of the leaf, or the reading. Assumes nothing.
use Rattle.std.proofs.Common.{arith, refl, sym, ◌∙◌}
use Rattle.std.proofs.lemmas.Result.{err_from_is_err_and}
use Rattle.rom.proofs.Refusals.{not-accepted}
use Rattle.header.specs.Header.{no_header, header_read}
use Rattle.leaf.specs.Tally.{no_tally}
use Rattle.tally.specs.Answer.{counted}
use Rattle.reader.proofs.Readings.{assess-header, assess-kinds, assess-offsets, assess-leaf, assess-done}
use Rattle.reader.proofs.read_for.Goals as goal
use Rattle.reader.proofs.read_for.Goals.{then-kinds-blocks-via-then-kinds-blocks}
use Rattle.reader.proofs.read_for.Goals.{then-kinds-blocks-via-else-kinds-blocks+then-offsets-blocks}

pub returns-in_err-header : goal.returns-in_err-header
unfolding no_header
returns-in_err-header c =
    let p = err_from_is_err_and c.from_residual.result c.from_residual.ensures.1 in
    rw (p.1, p.2) (assess-header _ _ _ _ _ c.in_err-header.ensures (not-accepted _))

pub returns-then-kinds-blocks : goal.returns-then-kinds-blocks
returns-then-kinds-blocks c = elim c.then-kinds-blocks.branch [
  | then-kinds-blocks-via-then-kinds-blocks w ↦
      assess-kinds _ _ _ _ _ c.in_ok-header.ensures refl (rw c.from-blocks.ensures at w.if-kinds-blocks.true)
  | then-kinds-blocks-via-else-kinds-blocks+then-offsets-blocks w ↦
      assess-offsets _ _ _ _ _ c.in_ok-header.ensures refl (rw c.from-blocks.ensures at w.if-kinds-blocks.false)
      (rw c.from-blocks.ensures at w.if-offsets-blocks.true)
]

pub returns-in_err-tally : goal.returns-in_err-tally
unfolding no_tally
returns-in_err-tally c =
    let r = c.from_residual-in_err-tally in
    let p = err_from_is_err_and r.result r.ensures.1 in
    rw (p.1, p.2)
    (assess-leaf _ _ _ _ _ c.in_ok-header.ensures refl (rw c.from-blocks.ensures at c.if-kinds-blocks.false)
    (rw c.from-blocks.ensures at c.if-offsets-blocks.false) _ c.up_to_leaves_end.ensures.result_value c.is_first_version.ensures _
    c.in_err-tally.ensures (not-accepted _))

pub returns : goal.returns
returns c =
    assess-done _ _ _ _ _ c.in_ok-header.ensures refl (rw c.from-blocks.ensures at c.if-kinds-blocks.false)
    (rw c.from-blocks.ensures at c.if-offsets-blocks.false) _ c.up_to_leaves_end.ensures.result_value c.is_first_version.ensures _
    c.in_ok-tally.ensures refl _ refl
