-- Of neither form, it is a type by its number. Assumes nothing.
use Rattle.std.proofs.Common.{◌≡◌, ℕ, ◌≢◌, ◌++◌, arith}
use borrow.Author.Tests.{ne_eqb}
use Rattle.rom.specs.Bytes.{pick}
use Rattle.text.specs.Quoted.{quoted}
use Rattle.text.specs.Written.{text_of}
use Rattle.text.specs.Numbers.{decimal_of}
use Rattle.report.specs.Words.{kind_words}
use Rattle.report.proofs.Names.{two}
use Rattle.report.proofs.words.kind_words.Goals as goal

numbered : (kind : ℕ) → kind ≢ 256 → kind ≢ 257 → kind_words kind ≡ quoted "type " ++ decimal_of kind
unfolding kind_words pick
numbered kind a b = simp (ne_eqb kind 256 a, ne_eqb kind 257 b)

pub returns-in_default : goal.returns-in_default
returns-in_default c =
    rw (numbered c.args.kind (omega arith) (omega arith), ← c.from.ensures)
    (two (text_of c.args.line) (quoted "type ") _ c.text-in_default.ensures c.decimal.ensures)
