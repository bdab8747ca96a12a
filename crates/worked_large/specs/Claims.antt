-- What computes of images of 512 bytes, and of stated sizes (document 02, request 6).
use Rattle.std.specs.Prelude.{◌≡◌, [], ◌∷◌, map, replicate}
use Rattle.format.specs.Chips.{the_later_edition}
use Rattle.rom.specs.Geometry.{small_size, large_size, without_magic, with_magic, large}
use Rattle.sheet.specs.declared.Form.TheVariants.{Narrow}
use Rattle.sheet.specs.Write.{write_number}
use Rattle.sheet.specs.Make.{make_number}
use Rattle.worked.specs.Sheets.{case21143}
use Rattle.worked_large.specs.Cases.{read_card, plain_cards, magic_cards, twenty_one_cards, longest_cards, refusals, whole_card}

-- each card is read and walked as it says; an image of another length than its stated size, and one of another size than the
-- two, is refused with 1 by every call; and narrow sheets keep to the smaller size, after 24
abbrev pub LargeImagesWorked : Type 0
LargeImagesWorked =
    (map read_card plain_cards ≡ plain_cards)
    × (map read_card magic_cards ≡ magic_cards)
    × (map read_card twenty_one_cards ≡ twenty_one_cards)
    × (map read_card longest_cards ≡ longest_cards)
    × (refusals small_size (whole_card (large with_magic)) ≡ replicate 6 1)
    × (refusals large_size (whole_card with_magic) ≡ replicate 6 1)
    × (refusals 256 (replicate 256 0) ≡ replicate 6 1)
    × (make_number Narrow (large without_magic) the_later_edition (whole_card (large without_magic)) 21143 large_size ≡ 1)
    × (map (λ sheet. write_number Narrow (large without_magic) the_later_edition sheet (replicate large_size 1)) (case21143.sheet ∷ [] ∷ [])
    ≡ 1 ∷ 24 ∷ [])
