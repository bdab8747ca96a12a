-- Demand 3: the older reading is a filter of the newest, and the two walks are one state with rows of their own. Assumes nothing.
use Prim.Native.Nat.{ℕ, ◌≤◌, ◌<◌}
use native.Mathlib.Omega.{arith}
use mathlib.Core.List.{List, [], ◌∷◌}
use mathlib.Core.Path.{◌≡◌, refl, ap, sym, ◌∙◌}
use mathlib.Core.Bool.{Bool, true, false}
use mathlib.Core.Logic.{inl, inr}
use lib.ListN.{length}
use Rattle.rom.specs.Geometry.{none}
use Rattle.rom.specs.Bytes.{pick, Bytes}
use Rattle.rom.specs.Refusal.{first_met}
use Rattle.format.specs.Chips.{newest_level}
use Rattle.image.specs.declared.Arguments.{Arguments}
use Rattle.image.specs.Image.{up_to_leaves_end}
use Rattle.image.specs.Arguments.{row_for, start_for, count_for, at_level}
use Rattle.leaf.proofs.Cuts.{cut-length}
use Rattle.reader.specs.declared.Answer.{Answer}
use Rattle.reader.specs.Reading.{blocks_for, judge_causes, accepted_answer, answer_for, judge_answer}
use Rattle.walk.specs.declared.Walk.{Walk}
use Rattle.walk.specs.declared.Way.{Way}
use Rattle.walk.specs.declared.Way.TheVariants.{EveryLook, Once, Fixed}
use Rattle.walk.specs.Walk.{way_of, is_fixed, fresh_walk, loaded_walk, rows_of, load_causes, walked_to, load_for}
use Rattle.walk.proofs.Loads.{few-blocks}
use Rattle.older.specs.Levels.{removed_block}
use Rattle.older.specs.Calls.{Call, call, run, Each, QuietAt, RefusedAt}
use Rattle.older.specs.Claims.{newest_choice, ChoiceListed, Comparable, way_for, WalksAgree, NoChoice, OlderReader}
use Rattle.older.proofs.Numbered.{block-past, listed-level, invalid-level, fixed-level, flags-same, fixed-fewer, not-removed}
use Rattle.older.proofs.OlderReadings.{judge-down, default-number, reads-agree}
use Rattle.older.specs.Alike.{DefaultKept, Kept, StandAlike}
use Rattle.older.proofs.Simulation.{on, choice-same, runs-agree}
use Rattle.older.proofs.Lacking.{idle, each-refused}

-- an accepted image is loaded by a fresh walk
load-accepted : (image : List ℕ) (a : Arguments) → first_met (judge_causes image a) ≡ 0
    → load_for fresh_walk image a ≡ record { number = 0; walk = loaded_walk image a }
unfolding load_for load_causes first_met walked_to pick fresh_walk
load-accepted image a e = rw e

-- nothing is asked of calls
each-quiet : (image : List ℕ) (a : Arguments) (w : Walk) (cs : List Call) → Each (λ w c. Unit {0}) image a w cs
each-quiet image a w [] = tt
each-quiet image a w (c ∷ cs) = (tt, each-quiet image a (call image a w c).walk cs)

module _ (image : List ℕ) (a : Arguments) (older : ℕ) (bytes : Bytes image) (h : older < newest_level)
    (e : first_met (judge_causes image (at_level a newest_level)) ≡ 0) where
  abbrev new : Arguments
  new = at_level a newest_level

  abbrev old : Arguments
  old = at_level a older

  newest-answer : judge_answer image new ≡ accepted_answer image new
  unfolding judge_answer answer_for pick
  newest-answer = rw e

  down : older ≤ newest_level
  down = omega arith

  nowhere : removed_block image a older none ≡ false
  nowhere =
      let few : length (blocks_for image a) ≤ none =
      omega (
        arith,
        few-blocks image a bytes,
        cut-length (row_for a) (count_for image a) (up_to_leaves_end a.layout image (start_for image a)),
      ) in
      block-past _ (blocks_for image a) none few

  abbrev connection : ℕ
  connection = (accepted_answer image new).connection

  alike : StandAlike (removed_block image a older) (loaded_walk image new) (loaded_walk image old)
  unfolding loaded_walk rows_of accepted_answer
  alike = record {
    alike = record {
      connection = refl;
      blocks = refl;
      listed = flags-same (row_for a) older newest_level _ _ (listed-level (row_for a) older newest_level down) (blocks_for image a);
      invalid = flags-same (row_for a) older newest_level _ _ (invalid-level (row_for a) older newest_level down) (blocks_for image a);
      fixed = flags-same (row_for a) older newest_level _ _ (fixed-level connection (row_for a) older newest_level down)
          (blocks_for image a);
      fewer = fixed-fewer connection (row_for a) older newest_level down (blocks_for image a);
    };
    state = record { loaded = refl; settled = refl; selected = refl; looks = refl; switches = refl };
    kept = nowhere;
  }

  module _ (d : removed_block image a older (judge_answer image new).default_number ≡ false) where
    default-kept : removed_block image a older (accepted_answer image new).default_number ≡ false
    default-kept = ap (λ (x : Answer). removed_block image a older x.default_number) (sym newest-answer) ∙ d

    default : DefaultKept (removed_block image a older) (loaded_walk image new) (loaded_walk image old)
    unfolding loaded_walk pick
    default = record {
      same = default-number image a older h e ∙ ap (λ (t : Bool). pick t none (accepted_answer image new).default_number) default-kept;
      kept = default-kept;
    }

  -- a choice that the older level lists is not removed, and neither is none
  choice-kept : ChoiceListed image a older → removed_block image a older (newest_choice image a) ≡ false
  choice-kept (inl e) = ap (removed_block image a older) e ∙ nowhere
  choice-kept (inr e) = not-removed (row_for a) older newest_level (blocks_for image a) (newest_choice image a) e

  way-loaded : way_of (loaded_walk image new).connection ≡ way_for image a
  unfolding loaded_walk
  way-loaded = ap (λ (x : Answer). way_of x.connection) (sym newest-answer)

  old-accepted : first_met (judge_causes image old) ≡ 0
  old-accepted = judge-down image a older newest_level down e

  agree : (way : Way) → way_for image a ≡ way → Kept way (removed_block image a older) (loaded_walk image new) (loaded_walk image old)
      → (calls : List Call) → Each (QuietAt way (removed_block image a older)) image new fresh_walk calls
      → run image new fresh_walk calls ≡ run image old fresh_walk calls
  unfolding loaded_walk
  agree way f kept =
      runs-agree way (removed_block image a older) nowhere image new old (loaded_walk image new) (loaded_walk image old)
      (load-accepted image new e) (load-accepted image old old-accepted) (on refl (way-loaded ∙ f) kept alike)

  walks-agree : WalksAgree image a older
  walks-agree calls = go (way_for image a) refl
    where
      go : (way : Way) → way_for image a ≡ way → Comparable way image a older calls
          → run image new fresh_walk calls ≡ run image old fresh_walk calls
      go EveryLook f c = agree EveryLook f (default c.0) calls c.1
      go Once f c = agree Once f (default c.0) calls c.1
      go Fixed f c = agree Fixed f (choice-kept c) calls (each-quiet image new fresh_walk calls)

  -- ## Without a choice

  module _ (fixed : is_fixed (way_for image a) ≡ true) (lacking : newest_choice image a ≡ none) (calls : List Call) where
    newest-refused : Each (RefusedAt 32) image new fresh_walk calls
    unfolding loaded_walk
    newest-refused =
        each-refused image new (loaded_walk image new) (load-accepted image new e) refl (ap is_fixed way-loaded ∙ fixed) lacking idle calls

    older-refused : Each (RefusedAt 32) image old fresh_walk calls
    unfolding loaded_walk accepted_answer
    older-refused =
        each-refused image old (loaded_walk image old) (load-accepted image old old-accepted) refl (ap is_fixed way-loaded ∙ fixed)
        (choice-same (removed_block image a older) (loaded_walk image new) (loaded_walk image old) alike.alike (choice-kept (inl lacking))
        ∙ lacking) idle calls

pub no-choice : NoChoice
no-choice image a older bytes h e fixed lacking calls =
    (newest-refused image a older bytes h e fixed lacking calls, older-refused image a older bytes h e fixed lacking calls)

pub older-reader : OlderReader
older-reader image a older bytes h e = (reads-agree image a older h e, walks-agree image a older bytes h e)
