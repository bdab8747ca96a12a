-- Each character is tested with its place. Assumes nothing.
use Prim.Native.Nat.{ℕ}
use mathlib.Core.Path.{◌∙◌}
use borrow.Author.Rules.{rules}
use borrow.Author.Tests.{tests, eq-eqb}
use lib.ListN.{length}
use Rattle.std.proofs.lemmas.Iterator.{YieldsList-from_slice}
use Rattle.std.proofs.lemmas.Iterator.Consumers.{YieldsList-from_enumerate}
use Rattle.std.proofs.lemmas.Iterator.Search.{all_from_yields_List}
use Rattle.console.specs.Value.{is_in_place, is_six_bytes}
use Rattle.console.proofs.Characters.{each_in_place}
use Rattle.console.proofs.value.is_six_bytes.Goals as goal

pub returns-then-word-eq-CHARACTERS : goal.returns-then-word-eq-CHARACTERS
unfolding is_six_bytes
returns-then-word-eq-CHARACTERS c =
    let word = c.args.word.now in
    all_from_yields_List (λ (p : ℕ × ℕ). is_in_place p.0 p.1) _ _ _ c.all.ensures.ran
    (YieldsList-from_enumerate (YieldsList-from_slice word cc) cc) (λ x b q k. search (rules, tests))
    ∙ each_in_place 0 word
    ∙ rw (eq-eqb (length word) 17 c.if-word-eq-CHARACTERS.true)
