-- A block that is refused, or of another sort, is not listed. Assumes nothing.
use Rattle.std.proofs.Common.{◌≡◌, ◌∙◌, refl, sym, ap, arith}
use Rattle.block.specs.declared.Block.{Block}
use Rattle.block.specs.declared.Block.TheVariants as code
use Rattle.block.specs.declared.Medium.{Medium}
use Rattle.block.specs.Answer.{Verdict, Listed, Reset, Power, Unknown, Refused, listed_in, found_as}
use Rattle.autosense.proofs.medium_at.Goals as goal

-- where the verdicts differ in whether they have an entry
unlisted : {v w : Verdict} {m : Medium} → v ≡ w → listed_in v ≡ 0 → w ≡ Listed m → ⊥
unlisted e z f = let one = ap listed_in (e ∙ f) in omega arith

other : (b : Block) → ((m : Medium) → b ≡ code.Listed m → ⊥) → listed_in (found_as b) ≡ 0
other (code.Listed m) n = absurd (n m refl)
other (code.Reset size) n = refl
other (code.Power size mode) n = refl
other (code.Unknown size) n = refl

pub returns-in_default : goal.returns-in_default
returns-in_default c = λ m e. unlisted c.in_default.ensures refl e

pub returns-in-Listed : goal.returns-in-Listed
returns-in-Listed c = sym c.in-Ok.ensures ∙ ap found_as c.in-Listed.is
