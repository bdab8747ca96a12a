-- Bytes in a room of 2048, of which the rest is 0: the bytes tell all of it.
use Rattle.std.specs.Prelude.{ℕ, ◌≡◌, ◌≤◌, ◌-◌, List, ◌++◌, length, take, drop, replicate}
use Rattle.std.proofs.Common.{sym, ap, ◌∙◌}
use Rattle.std.proofs.lemmas.List.{length-take-le, take-append-drop}
use Rattle.arrayvec.specs.ArrayVec.{ArrayVec}
use Rattle.hexadecimal.specs.declared.room.HeldBytes.TheInside.{Inside}

abbrev pub in_room : Inside → ArrayVec ℕ
in_room b = record { items = take b.length b.room }

abbrev pub IsInRoom : Inside → Type 0
IsInRoom b = (b.length ≤ length b.room) × (length b.room ≡ 2048) × (drop b.length b.room ≡ replicate (2048 - b.length) 0)

abbrev room_with : List ℕ → ℕ → Inside
room_with room n = record { room = room; length = n }

abbrev pub room_of : ArrayVec ℕ → Inside
room_of v = room_with (v.items ++ replicate (2048 - length v.items) 0) (length v.items)

pub room_of-in_room : (b : Inside) → IsInRoom b → room_of (in_room b) ≡ b
room_of-in_room b h =
    ap (λ n. room_with (take b.length b.room ++ replicate (2048 - n) 0) n) (length-take-le b.length b.room h.0)
    ∙ ap (λ rest. room_with (take b.length b.room ++ rest) b.length) (sym h.2)
    ∙ ap (λ room. room_with room b.length) (take-append-drop b.length b.room)
