-- The cards compute, each by its number; an image of another length than its stated size is refused with 1 whatever its CRCs.
-- Assumes nothing.
use Prim.Native.Nat.{◌-◌}
use mathlib.Core.Path.{◌≡◌, refl, ap, fun_ext, ◌∙◌}
use mathlib.Core.List.{List, map}
use Rattle.checksum.specs.Answer.{crc_causes, answer, srom_answer, id_answer, magic_answer}
use Rattle.format.specs.Chips.{the_later_edition}
use Rattle.image.specs.declared.Arguments.{Arguments}
use Rattle.leaf.specs.Cases as leaves
use Rattle.walk.specs.Walk.{fresh_walk}
use Rattle.sheet.specs.Write.{write_number}
use Rattle.worked.specs.Cases.{behind_board}
use Rattle.worked.specs.Sheets.{case21143}
use Rattle.worked.proofs.Computes.{walk-computes, sheet-computes}
use Rattle.worked.proofs.Sealed.{card-sealed}
use Rattle.worked.proofs.Once.{read_number, judge_number, read_with, run_with, read-once, run-once}
use Rattle.worked_large.specs.Cases.{CardCase, card_with, every_block, read_card, plain_cards, magic_cards, twenty_one_cards, longest_cards}
use Rattle.worked_large.specs.Cases.{refusals}
use Rattle.worked_large.specs.Claims.{LargeImagesWorked}

abbrev arguments_for : CardCase → Arguments
arguments_for c = record {
  chip = c.reading.chip;
  controller = c.controllers - 1;
  level = c.reading.level;
  layout = c.layout;
  first_edition = the_later_edition;
}

unfoldable card_once : CardCase → CardCase
card_once c =
    let image = card_with c.layout c.controllers c.start c.reading.leaf in
    let a = arguments_for c in
    let read = read_number image a every_block in
    let judged = judge_number image a in
    record {
      layout = c.layout;
      controllers = c.controllers;
      start = c.start;
      reading = read_with image a read every_block c.reading;
      calls = c.calls;
      seen = run_with image a judged fresh_walk c.calls;
    }

card-once : (c : CardCase) → read_card c ≡ card_once c
unfolding read_card card_once card_with
card-once c =
    let image = card_with c.layout c.controllers c.start c.reading.leaf in
    let a = arguments_for c in
    let s = card-sealed c.layout c.controllers c.start c.reading.leaf (behind_board c.layout) in
    λ i. record {
      layout = c.layout;
      controllers = c.controllers;
      start = c.start;
      reading = read-once image a s every_block c.reading i;
      calls = c.calls;
      seen = run-once image a s fresh_walk c.calls i;
    }

cards-once : (cs : List CardCase) → map read_card cs ≡ map card_once cs
cards-once cs = ap (λ (f : CardCase → CardCase). map f cs) (fun_ext card-once)

plain-cards : map read_card plain_cards ≡ plain_cards
unfolding walk-computes card_with card_once plain_cards
plain-cards = cards-once plain_cards ∙ refl

magic-cards : map read_card magic_cards ≡ magic_cards
unfolding walk-computes card_with card_once magic_cards
magic-cards = cards-once magic_cards ∙ refl

twenty-one-cards : map read_card twenty_one_cards ≡ twenty_one_cards
unfolding walk-computes card_with card_once twenty_one_cards
twenty-one-cards = cards-once twenty_one_cards ∙ refl

longest-cards : map read_card longest_cards ≡ longest_cards
unfolding walk-computes card_with card_once longest_cards
longest-cards = cards-once longest_cards ∙ refl

pub large-images-worked : LargeImagesWorked
unfolding sheet-computes write_number card_with crc_causes answer srom_answer id_answer magic_answer case21143 refusals
large-images-worked = (plain-cards, magic-cards, twenty-one-cards, longest-cards, refl, refl, refl, refl, refl)
