-- Each return is where one of the tests of the code byte and the command decides. Assumes nothing.
use mathlib.Core.Path.{refl, sym, ap, ◌∙◌}
use mathlib.Core.Bool.{not}
use borrow.Author.Tests.{le-leb, lt-leb, eq-eqb, ne_eqb}
use Rattle.rom.specs.Bytes.{is_in}
use Rattle.format.specs.Chips.{port_codes}
use Rattle.format.specs.Block.{port, bad_plain_code, bad_command}
use Rattle.block.proofs.Judged.{bad-code, fine, or_left, or_right, or-none}
use Rattle.block.proofs.judge_port.Goals as goal

pub returns-then-code-ge64 : goal.returns-then-code-ge64
unfolding port bad_plain_code
returns-then-code-ge64 c =
    bad-code _ _ refl (rw (← c.byte_at-code.ensures) (or_left _ (or_left _ (le-leb _ _ c.if-code-ge64.true))))

pub returns-then-not-is_port_code : goal.returns-then-not-is_port_code
unfolding port bad_plain_code port_codes is_in
returns-then-not-is_port_code c =
    bad-code _ _ refl
    (rw (← c.byte_at-code.ensures)
    (or_left _ (or_right (lt-leb _ _ c.if-code-ge64.false) (ap not (sym c.is_port_code.ensures) ∙ (ap not c.if-not-is_port_code.true)))))

pub returns-then-command-ne0 : goal.returns-then-command-ne0
unfolding port bad_plain_code bad_command port_codes is_in
returns-then-command-ne0 c =
    bad-code _ _ refl
    (rw (← c.byte_at-code.ensures)
    (or_right
    (or-none (lt-leb _ _ c.if-code-ge64.false)
    (ap not (sym c.is_port_code.ensures) ∙ (ap not c.if-not-is_port_code.false)))
    (rw (← c.word_at-command.ensures, ne_eqb _ _ c.if-command-ne0.true))))

pub returns : goal.returns
unfolding port bad_plain_code bad_command port_codes is_in
returns c =
    rw (
      c.has_bit-active_invalid.ensures,
      c.counts_as_default-is_default.ensures,
      c.word_at-command.ensures,
      c.byte_at-code.ensures,
    )
    (fine _ _ refl
    (rw (← c.byte_at-code.ensures)
    (or-none
    (or-none (lt-leb _ _ c.if-code-ge64.false)
    (ap not (sym c.is_port_code.ensures) ∙ (ap not c.if-not-is_port_code.false)))
    (rw (← c.word_at-command.ensures, eq-eqb _ _ c.if-command-ne0.false)))) refl)
