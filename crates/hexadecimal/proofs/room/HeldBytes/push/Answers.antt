-- Behind one byte more the rest of the room is 0 too. Assumes nothing.
use Rattle.std.proofs.Common.{◌≡◌, ℕ, ◌+◌, ◌-◌, List, length, take, drop, replicate, sym, ap, ◌∙◌, arith}
use Rattle.std.specs.Prelude.{slice_set}
use Rattle.std.proofs.lemmas.List.{length-set, length-take-le, drop-set-lt, drop-drop, drop-replicate}
use Rattle.hexadecimal.proofs.room.HeldBytes.push.Goals as goal

rest_more : (room : List ℕ) (at size byte : ℕ) → drop at room ≡ replicate (size - at) 0
    → drop (at + 1) (slice_set room at byte) ≡ replicate (size - (at + 1)) 0
rest_more room at size byte e =
    drop-set-lt (at + 1) room at byte (omega arith)
    ∙ sym (drop-drop 1 at room)
    ∙ ap (drop 1) e
    ∙ drop-replicate 1 (size - at) 0
    ∙ ap (λ k. replicate k 0) (omega arith)

pub invariant_of-self : goal.invariant_of-self
invariant_of-self c =
    let b = c.self.inside in
    let n : length (take b.length b.room) ≡ b.length = length-take-le b.length b.room c.self.invariant.0 in
    let is : length (take b.length b.room) ≡ length c.args.self.now.items = ap (λ v. length v.items) c.self.view_is in (
      omega (arith, length-set {A = ℕ}, c.self.invariant.1),
      length-set b.room b.length c.args.byte ∙ c.self.invariant.1,
      rest_more b.room b.length 2048 c.args.byte c.self.invariant.2,
    )
