-- The header's causes, none of which has acceptance's number, and what an accepted header says. Assumes nothing.
use Prim.Native.Nat.{ℕ, ◌≤◌}
use mathlib.Core.List.{List}
use mathlib.Core.Path.{◌≡◌, refl}
use mathlib.Core.Bool.{Bool, false}
use lib.Dec.{leb, lit<}
use lib.ListN.{length}
use borrow.Author.Tests.{ltb-false}
use Rattle.rom.specs.declared.Layout.{Layout}
use Rattle.rom.specs.Geometry.{wrong_length, image_length, leaves_end}
use Rattle.rom.specs.Bytes.{pick}
use Rattle.rom.specs.Refusal.{first_met, Numbered}
use Rattle.rom.proofs.First.{numbered-append, none_here, both-accepted, exact}
use Rattle.rom.proofs.Truth.{or-false}
use Rattle.rom.proofs.Layouts.{right-length}
use Rattle.image.specs.declared.Arguments.{Arguments}
use Rattle.image.specs.Image.{magic_causes, image_causes, argument_causes, leaf_header_causes}
use Rattle.image.specs.Arguments.{row_for, edition_for, leaf_for, start_for, header_causes}
use Rattle.image.specs.Claims.{ExactHeader, HeaderOrder, UntoldUnjudged}

-- ## Their numbers

pub magic-numbered : (l : Layout) (image : List ℕ) → Numbered (magic_causes l image)
unfolding magic_causes
magic-numbered l image = (lit< tt, (lit< tt, tt))

pub image-numbered : (l : Layout) (image : List ℕ) → Numbered (image_causes l image)
unfolding image_causes magic_causes
image-numbered l image = (lit< tt, (lit< tt, (lit< tt, (lit< tt, (lit< tt, (lit< tt, (lit< tt, tt)))))))

pub argument-numbered : (image : List ℕ) (a : Arguments) → Numbered (argument_causes image a)
unfolding argument_causes
argument-numbered image a = (lit< tt, (lit< tt, (lit< tt, (lit< tt, (lit< tt, tt)))))

leaf-header-numbered : (l : Layout) (image : List ℕ) (edition : Bool) (row leaf : ℕ)
    → Numbered (leaf_header_causes l image edition row leaf)
unfolding leaf_header_causes
leaf-header-numbered l image edition row leaf = (lit< tt, (lit< tt, tt))

pub header-numbered : (image : List ℕ) (a : Arguments) → Numbered (header_causes image a)
unfolding header_causes
header-numbered image a =
    numbered-append (image_causes a.layout image) _ (image-numbered a.layout image)
    (numbered-append (argument_causes image a) _ (argument-numbered image a)
    (leaf-header-numbered a.layout image (edition_for image a) (row_for a) (leaf_for image a)))

pub exact-header : ExactHeader
exact-header image a = (exact (header_causes image a) (header-numbered image a)).0

pub header-order : HeaderOrder
unfolding header_causes image_causes magic_causes argument_causes leaf_header_causes
header-order image a = refl

pub untold-unjudged : UntoldUnjudged
unfolding magic_causes first_met pick
untold-unjudged l image e = rw e

-- ## An accepted header

module _ (image : List ℕ) (a : Arguments) (accepted : first_met (header_causes image a) ≡ 0) where
  pub right-image : wrong_length a.layout.size (length image) ≡ false
  unfolding header_causes image_causes
  right-image =
      let i = (both-accepted (image_causes a.layout image) _ (image-numbered a.layout image) accepted).0 in
      (none_here _ _ (lit< tt) i).0

  pub whole-image : length image ≡ image_length a.layout.size
  whole-image = right-length a.layout.size (length image) right-image

  pub start_fits : start_for image a ≤ leaves_end a.layout
  unfolding header_causes leaf_header_causes
  start_fits =
      let g = (both-accepted (image_causes a.layout image) _ (image-numbered a.layout image) accepted).1 in
      let l = (both-accepted (argument_causes image a) _ (argument-numbered image a) g).1 in
      ltb-false (leaves_end a.layout) (start_for image a) (or-false (leb (leaf_for image a) _) _ (none_here _ _ (lit< tt) l).0).1
