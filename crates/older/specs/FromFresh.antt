-- The walks that calls reach.
use Rattle.std.specs.Prelude.{ℕ, List}
use Rattle.image.specs.declared.Arguments.{Arguments}
use Rattle.walk.specs.declared.Walk.{Walk}
use Rattle.walk.specs.Walk.{fresh_walk, load_for, look_for, clear_for}

-- from a fresh one, with any images, arguments and reports
pub data FromFresh : Walk → Type 0 where
  fresh : FromFresh fresh_walk
  load : {w : Walk} (image : List ℕ) (a : Arguments) → FromFresh w → FromFresh (load_for w image a).walk
  look : {w : Walk} (report : List ℕ) → FromFresh w → FromFresh (look_for w report).walk
  clear : {w : Walk} → FromFresh w → FromFresh (clear_for w).walk
