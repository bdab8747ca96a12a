-- Each return is where one of the tests of the code byte decides. Assumes nothing.
use mathlib.Core.Path.{refl, sym, ap, ◌∙◌}
use mathlib.Core.Bool.{not}
use borrow.Author.Tests.{le-leb, lt-leb}
use Rattle.rom.specs.Bytes.{is_in}
use Rattle.format.specs.Chips.{sia_codes}
use Rattle.format.specs.Block.{sia, bad_sia_code}
use Rattle.block.proofs.Judged.{bad-code, fine, or_left, or_right, or-none}
use Rattle.block.proofs.judge_sia.Goals as goal

pub returns-then-code-ge128 : goal.returns-then-code-ge128
unfolding sia bad_sia_code
returns-then-code-ge128 c =
    bad-code _ _ refl (rw (← c.byte_at-code.ensures) (or_left _ (le-leb _ _ c.if-code-ge128.true)))

pub returns-then-not-is_sia_code : goal.returns-then-not-is_sia_code
unfolding sia bad_sia_code sia_codes is_in
returns-then-not-is_sia_code c =
    bad-code _ _ refl
    (rw (← c.byte_at-code.ensures)
    (or_right (lt-leb _ _ c.if-code-ge128.false) (ap not (sym c.is_sia_code.ensures) ∙ (ap not c.if-not-is_sia_code.true))))

pub returns : goal.returns
unfolding sia bad_sia_code sia_codes is_in
returns c =
    rw c.byte_at-code.ensures
    (fine _ _ refl
    (rw (← c.byte_at-code.ensures)
    (or-none (lt-leb _ _ c.if-code-ge128.false) (ap not (sym c.is_sia_code.ensures) ∙ (ap not c.if-not-is_sia_code.false)))) refl)
