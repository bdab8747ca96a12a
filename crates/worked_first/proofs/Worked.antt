-- The cards compute, each by its number, and the sheets' numbers and what is made with the CRCs apart. Assumes nothing.
use Prim.Native.Nat.{ℕ}
use mathlib.Core.Path.{◌≡◌, refl, ap, subst, fun_ext, ◌∙◌}
use mathlib.Core.List.{List, [], ◌∷◌, map, append-nil}
use lib.ListN.{replicate}
use Rattle.rom.specs.Geometry.{large_size, without_magic, large}
use Rattle.format.specs.Chips.{the_first_edition, the_later_edition}
use Rattle.image.specs.declared.Arguments.{Arguments}
use Rattle.walk.specs.Walk.{fresh_walk}
use Rattle.older.specs.Calls.{load, look}
use Rattle.sheet.specs.declared.Form.TheVariants.{Narrow, Wide}
use Rattle.sheet.specs.Convert.{converted}
use Rattle.worked.specs.Cases.{unsealed}
use Rattle.worked.specs.Sheets.{case21041, case21140, case21143, all_ones}
use Rattle.worked.proofs.Computes.{walk-computes, sheet-computes}
use Rattle.worked.proofs.Sealed.{Sealed, version-sealed}
use Rattle.worked.proofs.Once.{judge_number, run_with, run-once}
use Rattle.worked.proofs.SheetsApart.{write-apart, make-written, made-written}
use Rattle.worked_first.specs.Cases.{EditionCard, image_of_version, in_its_edition, edition_cards, version_cards, sheet_under}
use Rattle.worked_first.specs.Claims.{EditionsWorked, VersionsWorked, FirstSheetsWorked, FirstWideWorked}

-- ## Cards

of-version-sealed : (version : ℕ) (leaf : List ℕ) → Sealed without_magic (image_of_version version leaf)
unfolding image_of_version unsealed
of-version-sealed version leaf = subst (Sealed without_magic) (append-nil _) (version-sealed without_magic 1 30 leaf version [])

abbrev arguments_in : EditionCard → Arguments
arguments_in c =
    record { chip = c.chip; controller = 0; level = c.level; layout = without_magic; first_edition = c.edition }

unfoldable edition_once : EditionCard → EditionCard
edition_once c =
    let image = image_of_version c.version c.leaf in
    let a = arguments_in c in
    let judged = judge_number image a in
    record {
      version = c.version;
      edition = c.edition;
      chip = c.chip;
      level = c.level;
      leaf = c.leaf;
      seen = run_with image a judged fresh_walk (load ∷ look (0 ∷ 0 ∷ []) ∷ []);
    }

edition-once : (c : EditionCard) → in_its_edition c ≡ edition_once c
unfolding in_its_edition edition_once
edition-once c = λ i. record {
  version = c.version;
  edition = c.edition;
  chip = c.chip;
  level = c.level;
  leaf = c.leaf;
  seen = run-once (image_of_version c.version c.leaf) (arguments_in c) (of-version-sealed c.version c.leaf) fresh_walk
      (load ∷ look (0 ∷ 0 ∷ []) ∷ []) i;
}

editions-once : (cs : List EditionCard) → map in_its_edition cs ≡ map edition_once cs
editions-once cs = ap (λ (f : EditionCard → EditionCard). map f cs) (fun_ext edition-once)

pub editions-worked : EditionsWorked
unfolding walk-computes image_of_version edition_once edition_cards
editions-worked = editions-once edition_cards ∙ refl

pub versions-worked : VersionsWorked
unfolding walk-computes image_of_version edition_once version_cards
versions-worked = editions-once version_cards ∙ refl

-- ## Sheets

pub first-sheets-worked : FirstSheetsWorked
unfolding sheet-computes case21041 case21140 case21143 all_ones sheet_under
first-sheets-worked =
    let sheet = sheet_under 0x0200 in (
      simp write-apart,
      simp write-apart,
      made-written Narrow without_magic the_first_edition sheet all_ones refl the_first_edition 21041 (replicate 48 1) refl ∙ refl,
      make-written Narrow without_magic the_first_edition sheet all_ones refl the_later_edition 21041 48 ∙ refl,
      simp write-apart,
      simp write-apart,
    )

pub first-wide-worked : FirstWideWorked
unfolding sheet-computes case21041 converted sheet_under
first-wide-worked =
    made-written Wide (large without_magic) the_first_edition (converted Narrow (sheet_under 0x0200)) (replicate large_size 1) refl
    the_first_edition 21041 (replicate 50 1) refl ∙ refl
