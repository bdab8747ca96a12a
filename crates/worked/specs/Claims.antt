-- What computes: the worked cases, sheets with their images, and why demand 3's conditions on the walks are needed.
use Rattle.std.specs.Prelude.{ℕ, ◌<◌, ◌≡◌, List, [], ◌∷◌, ◌++◌, map, Bool, true, false, replicate, set}
use Rattle.rom.specs.Geometry.{without_magic, with_magic}
use Rattle.rom.specs.Refusal.{first_met}
use Rattle.format.specs.Chips.{newest_level, the_later_edition}
use Rattle.format.specs.Block.{is_listed}
use Rattle.image.specs.declared.Arguments.{Arguments}
use Rattle.image.specs.Arguments.{row_for, at_level}
use Rattle.reader.specs.Reading.{blocks_for, judge_causes, judge_answer}
use Rattle.walk.specs.Walk.{is_fixed, block_is, fresh_walk}
use Rattle.older.specs.Calls.{Call, Down, run}
use Rattle.older.specs.Levels.{removed_block}
use Rattle.older.specs.Claims.{NoneRemoved, newest_choice, way_for}
use Rattle.sheet.specs.declared.Form.TheVariants.{Narrow}
use Rattle.sheet.specs.Write.{write_number, written}
use Rattle.sheet.specs.Make.{make_number, make_length, made}
use Rattle.worked.specs.Cases as whole
use Rattle.worked.specs.Sheets as sheets
use Rattle.worked.specs.Sheets.{changes, try, all_ones, long, unknown_body, case21143, untidy, case_magic, untidy_magic}

-- cases a to k, as whole images: each is answered as it says
abbrev pub ImagesWorked : Type 0
ImagesWorked = map whole.worked whole.image_cases ≡ whole.image_cases

-- and so are cases before a Magic Packet block
abbrev pub MagicImagesWorked : Type 0
MagicImagesWorked = map whole.worked whole.magic_image_cases ≡ whole.magic_image_cases

-- and so is a card with a power block
abbrev pub PowerImagesWorked : Type 0
PowerImagesWorked = map whole.worked whole.power_image_cases ≡ whole.power_image_cases

-- and so is one that is refused with 31 at the newest level and read below it
abbrev pub RepeatedWorked : Type 0
RepeatedWorked = map whole.worked whole.repeated_image_cases ≡ whole.repeated_image_cases

-- and so are cards at the newest level and at an older one: with an empty connection word, and in the other layouts
abbrev pub OlderWorked : Type 0
OlderWorked = map whole.worked whole.older_cases ≡ whole.older_cases

-- and so are cards under fixed types
abbrev pub FixedImagesWorked : Type 0
FixedImagesWorked = map whole.worked whole.fixed_image_cases ≡ whole.fixed_image_cases

-- 29 and 30 stand after 4 and before 5
abbrev pub OrderWorked : Type 0
OrderWorked = map whole.order whole.order_cases ≡ whole.order_cases

-- sheets and images are each other's, and changes of them are refused as they say
abbrev pub SheetsWorked : Type 0
SheetsWorked =
    (map sheets.run_sheet sheets.sheet_cases ≡ sheets.sheet_cases)
    × (map try changes ≡ changes)
    × (map (λ n. write_number Narrow without_magic the_later_edition (long n) all_ones) (91 ∷ 92 ∷ []) ≡ 0 ∷ 26 ∷ [])
    × (map (λ n. write_number Narrow without_magic the_later_edition (unknown_body n) all_ones) (89 ∷ 90 ∷ 126 ∷ 127 ∷ []) ≡ 0 ∷ 26 ∷ 26
    ∷ 25 ∷ [])
    × (write_number Narrow without_magic the_later_edition case21143.sheet (0 ∷ all_ones) ≡ 1)
    × (make_length Narrow without_magic the_later_edition case21143.image 21143 57 ≡ 55)
    × (made Narrow without_magic the_later_edition case21143.image 21143 (replicate 57 1) ≡ case21143.sheet ++ 1 ∷ 1 ∷ [])
    × (make_number Narrow without_magic the_later_edition case21143.image 21143 54 ≡ 12)
    × (make_number Narrow without_magic the_later_edition untidy 21143 57 ≡ 27)

-- and before a Magic Packet block: it is kept, and judged; leaves end before it, and tidiness does
abbrev pub MagicSheetsWorked : Type 0
MagicSheetsWorked =
    (written Narrow with_magic the_later_edition case_magic.sheet (set case_magic.image 33 0) ≡ case_magic.image)
    × (made Narrow with_magic the_later_edition case_magic.image 21143 (replicate 55 1) ≡ case_magic.sheet)
    × (write_number Narrow with_magic the_later_edition case_magic.sheet all_ones ≡ 29)
    × (map (λ n. write_number Narrow with_magic the_later_edition (long n) case_magic.image) (59 ∷ 60 ∷ []) ≡ 0 ∷ 26 ∷ [])
    × (make_number Narrow with_magic the_later_edition untidy_magic 21143 57 ≡ 27)

-- ## Without one of the conditions of demand 3, two walks differ

-- an image that the newest reader accepts, whose connection type is fixed or is not, an older level, and calls after which the
-- two walks are not alike
pub record Differ (fixed : Bool) : Type 0 where
  pub image : List ℕ
  pub arguments : Arguments
  pub older : ℕ
  pub calls : List Call
  pub below : older < newest_level
  pub accepted : first_met (judge_causes image (at_level arguments newest_level)) ≡ 0
  pub way : is_fixed (way_for image arguments) ≡ fixed
  pub differ : run image (at_level arguments newest_level) fresh_walk calls ≡ run image (at_level arguments older) fresh_walk calls → ⊥

-- a removed default, though no removed entry is up at a look that the newest walk accepts
pub record RemovedDefault : Type 0 where
  pub walks : Differ false
  pub down : Down (removed_block walks.image walks.arguments walks.older) walks.image
      (at_level walks.arguments newest_level) fresh_walk walks.calls

-- a removed entry up, though the default is none
pub record RemovedUp : Type 0 where
  pub walks : Differ false
  pub «default» : removed_block walks.image walks.arguments walks.older
      (judge_answer walks.image (at_level walks.arguments newest_level)).default_number ≡ false

-- under a fixed type, a choice that the older level does not list, though the default is none and no removed entry is up
pub record RemovedChoice : Type 0 where
  pub walks : Differ true
  pub unlisted : block_is (is_listed (row_for walks.arguments) walks.older) (blocks_for walks.image walks.arguments)
      (newest_choice walks.image walks.arguments) ≡ false
  pub none-removed : NoneRemoved walks.image walks.arguments walks.older walks.calls
