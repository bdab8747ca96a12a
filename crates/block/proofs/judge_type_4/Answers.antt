-- Each return is where one of the tests of the length and the code byte decides. Assumes nothing.
use mathlib.Core.Path.{refl, sym, ap, ◌∙◌}
use mathlib.Core.Bool.{not}
use borrow.Author.Tests.{le-leb, lt-leb}
use Rattle.rom.specs.Bytes.{pick, is_in}
use Rattle.format.specs.Chips.{sym_codes}
use Rattle.format.specs.Block.{symbol, bad_plain_code, length_for}
use Rattle.block.proofs.Judged.{wrong-length, bad-code, fine, or_left, or_right, or-none, is-wrong, is_right}
use Rattle.block.proofs.judge_type_4.Goals as goal

pub returns-then-len-ne8 : goal.returns-then-len-ne8
unfolding symbol length_for pick
returns-then-len-ne8 c =
    wrong-length _ _ (is-wrong 4 _ c.requires.0 c.if-len-ne8.true)

pub returns-then-code-ge64 : goal.returns-then-code-ge64
unfolding symbol bad_plain_code length_for pick
returns-then-code-ge64 c =
    bad-code _ _ (is_right 4 _ c.requires.0 c.if-len-ne8.false)
    (rw (← c.byte_at-code.ensures) (or_left _ (le-leb _ _ c.if-code-ge64.true)))

pub returns-then-not-is_sym_code : goal.returns-then-not-is_sym_code
unfolding symbol bad_plain_code length_for pick sym_codes is_in
returns-then-not-is_sym_code c =
    bad-code _ _
    (is_right 4 _ c.requires.0
    c.if-len-ne8.false)
    (rw (← c.byte_at-code.ensures)
    (or_right (lt-leb _ _ c.if-code-ge64.false) (ap not (sym c.is_sym_code.ensures) ∙ (ap not c.if-not-is_sym_code.true))))

pub returns : goal.returns
unfolding symbol bad_plain_code length_for pick sym_codes is_in
returns c =
    rw (
      c.has_bit-active_invalid.ensures,
      c.counts_as_default-is_default.ensures,
      c.word_at-command.ensures,
      c.byte_at-code.ensures,
    )
    (fine _ _
    (is_right 4 _ c.requires.0
    c.if-len-ne8.false)
    (rw (← c.byte_at-code.ensures)
    (or-none (lt-leb _ _ c.if-code-ge64.false)
    (ap not (sym c.is_sym_code.ensures) ∙ (ap not c.if-not-is_sym_code.false)))) refl)
