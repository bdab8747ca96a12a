-- The refusals of load and look are the first causes that are met, and a refusal hands the walk back. Assumes nothing.
use Prim.Native.Nat.{ℕ}
use mathlib.Core.List.{List}
use mathlib.Core.Path.{◌≡◌}
use lib.Dec.{lit<}
use borrow.Author.Tests.{ne_eqb}
use Rattle.rom.specs.Bytes.{pick}
use Rattle.rom.specs.Refusal.{first_met, Numbered}
use Rattle.rom.proofs.First.{exact, numbered-append}
use Rattle.image.specs.declared.Arguments.{Arguments}
use Rattle.image.specs.Image.{is_first_version}
use Rattle.image.specs.Arguments.{row_for, header_causes}
use Rattle.image.proofs.Causes.{header-numbered}
use Rattle.leaf.proofs.Cuts.{leaf-numbered}
use Rattle.reader.specs.Reading.{blocks_for, leaf_causes_for, judge_causes}
use Rattle.walk.specs.declared.Walk.{Walk}
use Rattle.walk.specs.Walk.{look_causes, load_causes, walked_to, load_for, look_for}
use Rattle.walk.specs.Claims.{ExactLoad, ExactLook, RefusedLoad, RefusedLook}

load-numbered : (w : Walk) (image : List ℕ) (a : Arguments) → Numbered (load_causes w image a)
unfolding load_causes judge_causes leaf_causes_for
load-numbered w image a = (
  lit< tt,
  numbered-append (header_causes image a) (leaf_causes_for image a) (header-numbered image a)
      (leaf-numbered (is_first_version image) (row_for a) a.level (blocks_for image a)),
)

look-numbered : (w : Walk) (report : List ℕ) → Numbered (look_causes w report)
unfolding look_causes
look-numbered w report = (lit< tt, (lit< tt, (lit< tt, (lit< tt, tt))))

pub exact-load : ExactLoad
unfolding load_for walked_to
exact-load w image a = (exact (load_causes w image a) (load-numbered w image a)).0

pub exact-look : ExactLook
unfolding look_for walked_to
exact-look w report = (exact (look_causes w report) (look-numbered w report)).0

refused-walk : (n : ℕ) (next w : Walk) → ((walked_to n next w).number ≡ 0 → ⊥) → (walked_to n next w).walk ≡ w
unfolding walked_to pick
refused-walk n next w h = rw (ne_eqb n 0 h)

pub refused-load : RefusedLoad
unfolding load_for
refused-load w image a h = refused-walk (first_met (load_causes w image a)) _ w h

pub refused-look : RefusedLook
unfolding look_for
refused-look w report h = refused-walk (first_met (look_causes w report)) _ w h
