-- The part that there is room for fits, and is what a line of the whole text keeps of it. Assumes nothing.
use Rattle.std.proofs.Common.{◌≡◌, ◌++◌, take, arith, ◌∙◌}
use Rattle.std.proofs.lemmas.Grind.{common_steps}
use Rattle.text.proofs.Building.{fitted-part}
use Rattle.text.proofs.line.Line.text.Goals as goal

pub returns : goal.returns
returns c =
    let room = c.remaining_capacity-room.result in
    let s = c.args.self.bytes.items in
    let e : c.try_extend_from_slice.new.self.items ≡ s ++ take room c.args.text.now = grind (arith, common_steps) in
    e ∙ fitted-part s _ room c.remaining_capacity-room.ensures
