-- A whole block has no opening, an extended one has two bytes. Assumes nothing.
use Rattle.std.proofs.Common.{◌∙◌, arith}
use Rattle.std.proofs.Math.ListN.{length-set}
use Rattle.writer.proofs.Openings.{no-opening, its_opening, opening_room, opening-put}
use Rattle.writer.proofs.leaf_writer.put_opening.Goals as goal
use Rattle.writer.proofs.leaf_writer.put_opening.Goals.{then-size-ne0, else-size-ne0}

pub overflow_cast-room : goal.overflow_cast-room
overflow_cast-room c =
    let e = its_opening c.requires c.opening_size-size.ensures.0 c.if-size-ne0.true in omega (arith, e.body)

pub overflow_add-room : goal.overflow_add-room
overflow_add-room c =
    let e = its_opening c.requires c.opening_size-size.ensures.0 c.if-size-ne0.true in omega (arith, e.body)

pub overflow_cast-room-then-size-ne0 : goal.overflow_cast-room-then-size-ne0
overflow_cast-room-then-size-ne0 c =
    let e = its_opening c.requires c.opening_size-size.ensures.0 c.if-size-ne0.true in omega (arith, e.kind)

pub bounds-room-to-then-size-ne0 : goal.bounds-room-to-then-size-ne0
bounds-room-to-then-size-ne0 c =
    let r = opening_room c.requires c.opening_size-size.ensures.0 c.if-size-ne0.true in simp length-set (omega arith)

pub returns-clause-room_after : goal.returns-clause-room_after
returns-clause-room_after c =
    elim c.if-size-ne0.branch [
      | then-size-ne0 w ↦ w.room-is ∙ opening-put c.requires c.opening_size-size.ensures.0 w.if-size-ne0.true
      | else-size-ne0 w ↦ w.room-is ∙ no-opening c.requires c.opening_size-size.ensures.0 w.if-size-ne0.false
    ]
