-- The chain tests each byte, as the definition does. Assumes nothing.
use Rattle.std.proofs.Common.{rules, tests, sym, ◌∙◌, ◌==◌}
use Rattle.std.proofs.lemmas.Iterator.{YieldsList-from_slice}
use Rattle.std.proofs.lemmas.Iterator.Search.{all_from_yields_List}
use Rattle.rom.proofs.Zeros.{zero-all}
use Rattle.rom.proofs.all_zero.Goals as goal

pub returns : goal.returns
returns c =
    all_from_yields_List (λ x. x == 0) _ _ _ c.all.ensures.ran (YieldsList-from_slice c.args.bytes.now (cc))
    (λ x b q k. search (rules, tests))
    ∙ sym (zero-all _)
