-- The two walks compute, each by its number, and differ in the switches of the last look. Assumes nothing.
use Prim.Native.Nat.{ℕ}
use native.Mathlib.Omega.{arith}
use mathlib.Core.Path.{◌≡◌, refl, ap, sym, ◌∙◌}
use mathlib.Core.List.{List, [], ◌∷◌}
use mathlib.Core.Bool.{false, true}
use lib.Dec.{lit<}
use lib.ListN.{drop}
use Rattle.rom.specs.Geometry.{without_magic, none}
use Rattle.rom.specs.Bytes.{pick}
use Rattle.rom.specs.Refusal.{first_met}
use Rattle.format.specs.Chips.{newest_level, the_later_edition}
use Rattle.format.specs.Block.{is_listed}
use Rattle.image.specs.declared.Arguments.{Arguments}
use Rattle.image.specs.Arguments.{row_for, at_level}
use Rattle.reader.specs.declared.Answer.{Answer}
use Rattle.reader.specs.Reading.{blocks_for, judge_causes, judge_answer, answer_for, accepted_answer}
use Rattle.walk.specs.Walk.{way_of, is_fixed, block_is, fresh_walk}
use Rattle.older.specs.Calls.{Call, load, look, After, run}
use Rattle.older.specs.Levels.{removed_block}
use Rattle.older.specs.Claims.{newest_choice}
use Rattle.older.proofs.Numbered.{flag-none}
use Rattle.older.proofs.Simulation.{switches_in}
use Rattle.worked.specs.Cases.{image_with, then, refused_then}
use Rattle.worked.specs.Claims.{RemovedDefault, RemovedUp, RemovedChoice}
use Rattle.worked.proofs.Sealed.{judge-apart, image-sealed}
use Rattle.worked.proofs.Once.{judge_number, run_with, run-once}
use Rattle.worked.proofs.Computes.{walk-computes}

abbrev for21143 : Arguments
for21143 = record { chip = 21143; controller = 0; level = newest_level; layout = without_magic; first_edition = the_later_edition }

abbrev after-load : After
after-load = then false none 0 0

-- the switches after the second call
abbrev second_switches : List After → ℕ
second_switches [] = 0
second_switches (x ∷ []) = 0
second_switches (x ∷ (y ∷ ys)) = switches_in y.walk

apart : (new old : List After) → second_switches new ≡ 1 → second_switches old ≡ 0 → new ≡ old → ⊥
apart new old n o e = let z : ◌≡◌ {A = ℕ} 1 0 = sym n ∙ ap second_switches e ∙ o in omega arith

-- ## A card with a leaf, for the newest level and an older one

abbrev for_level : ℕ → Arguments
for_level level = at_level for21143 level

module _ (leaf : List ℕ) where
  abbrev card : List ℕ
  card = image_with without_magic leaf

  -- what is seen at a level
  abbrev seen_at : ℕ → List Call → List After
  seen_at level calls = run_with card (for_level level) (judge_number card (for_level level)) fresh_walk calls

  seen-at : (level : ℕ) (calls : List Call) → run card (for_level level) fresh_walk calls ≡ seen_at level calls
  seen-at level calls = run-once card (for_level level) (image-sealed without_magic leaf) fresh_walk calls

  walks-apart : (older : ℕ) (calls : List Call) (new old : List After) → seen_at newest_level calls ≡ new → seen_at older calls ≡ old
      → second_switches new ≡ 1 → second_switches old ≡ 0
      → run card (for_level newest_level) fresh_walk calls ≡ run card (for_level older) fresh_walk calls → ⊥
  walks-apart older calls new old n o one none e =
      apart new old one none (sym (seen-at newest_level calls ∙ n) ∙ e ∙ seen-at older calls ∙ o)

  module _ (z : judge_number card (for_level newest_level) ≡ 0) where
    accepted-newest : first_met (judge_causes card (for_level newest_level)) ≡ 0
    unfolding judge_number
    accepted-newest = judge-apart card (for_level newest_level) (image-sealed without_magic leaf) ∙ z

    -- what is asked of the newest answer is answered by the accepted one
    of-accepted : {X : Type 0} (f : Answer → X)
        → f (judge_answer card (for_level newest_level)) ≡ f (accepted_answer card (for_level newest_level))
    unfolding judge_answer answer_for pick
    of-accepted f = rw accepted-newest

abbrev no_link : List Call
no_link = load ∷ look (0 ∷ []) ∷ []

-- ## A removed default: a type 4 block with the Default bit, at level 4, and a report with no link

abbrev default_leaf : List ℕ
default_leaf = 0x00 ∷ 0x08 ∷ 0x01 ∷ 0x88 ∷ 0x04 ∷ 0x03 ∷ 0x00 ∷ 0x00 ∷ 0x00 ∷ 0x00 ∷ 0x00 ∷ 0x40 ∷ []

default-computes :
    (judge_number (card default_leaf) (for_level newest_level) ≡ 0)
    × (seen_at default_leaf newest_level no_link ≡ after-load ∷ then false 0 1 1 ∷ [])
    × (seen_at default_leaf 4 no_link ≡ after-load ∷ then false none 1 0 ∷ [])
    × (is_fixed (way_of (accepted_answer (card default_leaf) (for_level newest_level)).connection) ≡ false)
unfolding walk-computes
default-computes = (refl, refl, refl, refl)

pub removed-default : RemovedDefault
removed-default = record {
  walks = record {
    image = card default_leaf;
    arguments = for21143;
    older = 4;
    calls = no_link;
    below = lit< tt;
    accepted = accepted-newest default_leaf default-computes.0;
    way = of-accepted default_leaf default-computes.0 (λ r. is_fixed (way_of r.connection)) ∙ default-computes.3;
    differ = walks-apart default_leaf 4 no_link _ _ default-computes.1 default-computes.2 refl refl;
  };
  down = (tt, (λ e k r. flag-none 1 k, tt));
}

-- ## A removed entry up: a type 2 block at level 2, and its link

abbrev up_leaf : List ℕ
up_leaf = 0x00 ∷ 0x08 ∷ 0x01 ∷ 0x86 ∷ 0x02 ∷ 0x00 ∷ 0x01 ∷ 0x00 ∷ 0x02 ∷ 0x00 ∷ []

abbrev one_link : List Call
one_link = load ∷ look (1 ∷ []) ∷ []

up-computes :
    (judge_number (card up_leaf) (for_level newest_level) ≡ 0)
    × (seen_at up_leaf newest_level one_link ≡ after-load ∷ then true 0 1 1 ∷ [])
    × (seen_at up_leaf 2 one_link ≡ after-load ∷ then false none 1 0 ∷ [])
    × (is_fixed (way_of (accepted_answer (card up_leaf) (for_level newest_level)).connection) ≡ false)
    × (removed_block (card up_leaf) for21143 2 (accepted_answer (card up_leaf) (for_level newest_level)).default_number ≡ false)
unfolding walk-computes
up-computes = (refl, refl, refl, refl, refl)

pub removed-up : RemovedUp
removed-up = record {
  walks = record {
    image = card up_leaf;
    arguments = for21143;
    older = 2;
    calls = one_link;
    below = lit< tt;
    accepted = accepted-newest up_leaf up-computes.0;
    way = of-accepted up_leaf up-computes.0 (λ r. is_fixed (way_of r.connection)) ∙ up-computes.3;
    differ = walks-apart up_leaf 2 one_link _ _ up-computes.1 up-computes.2 refl refl;
  };
  «default» = of-accepted up_leaf up-computes.0 (λ r. removed_block (card up_leaf) for21143 2 r.default_number) ∙ up-computes.4;
}

-- ## A removed choice: that block on a card that is set to 10BaseT, at level 2, and a report with no link

abbrev choice_leaf : List ℕ
choice_leaf = 0x00 ∷ 0x00 ∷ drop 2 up_leaf

choice-computes :
    (judge_number (card choice_leaf) (for_level newest_level) ≡ 0)
    × (seen_at choice_leaf newest_level no_link ≡ after-load ∷ then true 0 1 1 ∷ [])
    × (seen_at choice_leaf 2 no_link ≡ after-load ∷ refused_then 32 false none 0 0 ∷ [])
    × (is_fixed (way_of (accepted_answer (card choice_leaf) (for_level newest_level)).connection) ≡ true)
    × (block_is (is_listed (row_for for21143) 2) (blocks_for (card choice_leaf) for21143) (newest_choice (card choice_leaf) for21143)
    ≡ false)
    × (removed_block (card choice_leaf) for21143 2 (accepted_answer (card choice_leaf) (for_level newest_level)).default_number ≡ false)
unfolding walk-computes
choice-computes = (refl, refl, refl, refl, refl, refl)

pub removed-choice : RemovedChoice
removed-choice = record {
  walks = record {
    image = card choice_leaf;
    arguments = for21143;
    older = 2;
    calls = no_link;
    below = lit< tt;
    accepted = accepted-newest choice_leaf choice-computes.0;
    way = of-accepted choice_leaf choice-computes.0 (λ r. is_fixed (way_of r.connection)) ∙ choice-computes.3;
    differ = walks-apart choice_leaf 2 no_link _ _ choice-computes.1 choice-computes.2 refl refl;
  };
  unlisted = choice-computes.4;
  none-removed = (
    of-accepted choice_leaf choice-computes.0 (λ r. removed_block (card choice_leaf) for21143 2 r.default_number) ∙ choice-computes.5,
    (tt, (λ e k r. flag-none 1 k, tt)),
  );
}
