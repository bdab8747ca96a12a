-- '0x' stands before a word. Assumes nothing.
use Rattle.std.proofs.lemmas.Bool.Decides.{nat_tests}
use Rattle.std.proofs.Common.{◌≡◌, arith, [], ◌∷◌, ap, ◌∙◌, append_assoc}
use Rattle.text.specs.Numbers.{hex_of}
use Rattle.rom.specs.Bytes.{pick}
use Rattle.text.specs.Written.{text_of, fitted, spelled_as}
use Rattle.text.proofs.Building.{fitted-after}
use Rattle.text.proofs.line.Line.value.Goals as goal

pub returns-in_default : goal.returns-in_default
unfolding spelled_as pick
returns-in_default c =
    let a = c.args in
    let e = fitted-after _ _ c.text.ensures c.hex-in_default.ensures
    ∙ ap fitted (append_assoc (text_of a.self) (48 ∷ 120 ∷ []) (hex_of 4 a.n)) in
    let k : spelled_as a.mark a.n ≡ 48 ∷ 120 ∷ hex_of 4 a.n = grind (arith, nat_tests) in
    rw k e
