-- One code, and a second behind it, where the first is taken as another. Assumes nothing.
use Rattle.std.proofs.Common.{◌≡◌, ◌≢◌, ℕ, ◌∙◌, [], ◌∷◌, ◌++◌}
use borrow.Author.Tests.{ne_eqb}
use Rattle.rom.specs.Bytes.{pick}
use Rattle.text.specs.Written.{text_of}
use Rattle.format.specs.Chips.{taken_as}
use Rattle.report.specs.Words.{says, since_words, connection_words}
use Rattle.report.proofs.Names.{two}
use Rattle.report.proofs.words.connection_words.Goals as goal

both : (code taken : ℕ) → taken ≡ taken_as code → taken ≢ code
    → connection_words code ≡ says "@" (code ∷ 0 ∷ 0 ∷ 0 ∷ []) ++ since_words code
unfolding connection_words pick
both code taken e h = rw (ne_eqb (taken_as code) code (λ k. h (e ∙ k)))

pub returns : goal.returns
returns c =
    let t = c.taken_as-taken in
    let a = c.args in
    rw (both a.connection t.result t.ensures c.if-taken-connection.false)
    (two (text_of a.line) (says "@" (a.connection ∷ 0 ∷ 0 ∷ 0 ∷ [])) (since_words a.connection)
    {u = text_of c.with-line.result}
    (rw (← c.from.ensures) c.with-line.ensures)
    (rw (← t.ensures, ← c.from-2.ensures) c.with.ensures))
