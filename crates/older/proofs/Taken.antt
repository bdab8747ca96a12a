-- Two cards of which one has the type that the other's is taken as: their walks differ in the type alone, which is not seen, and both
-- types are of one way. Assumes nothing.
use Prim.Native.Nat.{ℕ}
use mathlib.Core.List.{List, [], ◌∷◌}
use mathlib.Core.Path.{◌≡◌, refl, ap, ap₂, sym, ◌∙◌}
use mathlib.Core.Bool.{Bool, true, false}
use mathlib.Core.Logic.{◌⊎◌, inl, inr}
use lib.ListN.{length}
use Rattle.rom.specs.Geometry.{none}
use Rattle.rom.specs.Bytes.{pick}
use Rattle.rom.specs.Refusal.{first_met}
use Rattle.format.specs.Chips.{taken_as}
use Rattle.format.specs.Block.{is_default}
use Rattle.image.specs.declared.Arguments.{Arguments}
use Rattle.image.specs.Image.{up_to_leaves_end}
use Rattle.image.specs.Arguments.{row_for, start_for, count_for}
use Rattle.leaf.specs.Leaf.{first_from}
use Rattle.leaf.proofs.Cuts.{cut-length}
use Rattle.reader.specs.Reading.{judge_causes, accepted_answer}
use Rattle.walk.specs.declared.Walk.{Walk}
use Rattle.walk.specs.declared.Walked.{Walked}
use Rattle.walk.specs.Walk.{rows_of, fresh_walk, loaded_walk, load_causes, walked_to, load_for, look_for, clear_for}
use Rattle.walk.specs.Claims.{under, EqualButType}
use Rattle.walk.proofs.Loads.{load-loaded}
use Rattle.walk.proofs.Looks.{look-keeps}
use Rattle.walk.proofs.Taken.{taken-alike, same-way-taken}
use Rattle.walk.proofs.Ways.{same_way}
use Rattle.older.specs.Calls.{Call, load, look, clear, call, seen, After, after, run}
use Rattle.older.specs.Claims.{SameButCode, WalkedAsTaken}

-- what a load keeps of the same blocks
same_rows : (c : ℕ) {d row mine level own : ℕ} {bs cs : List (List ℕ)} → d ≡ taken_as c → row ≡ mine → level ≡ own → bs ≡ cs
    → rows_of d row level bs ≡ rows_of c mine own cs
same_rows c {mine = mine} {own = own} {cs = cs} ed er el eb = rw (ed, er, el, eb) (sym (taken-alike c mine own cs).1)

same-default : {row mine level own : ℕ} {bs cs : List (List ℕ)} → row ≡ mine → level ≡ own → bs ≡ cs
    → first_from (is_default row level) 0 bs ≡ first_from (is_default mine own) 0 cs
same-default er el eb = rw (er, el, eb)

-- the type is not seen
seen-under : (c : ℕ) (w : Walk) → seen (under c w) ≡ seen w
unfolding seen under
seen-under c w = refl

under-loaded : (c : ℕ) (w : Walk) → (under c w).loaded ≡ w.loaded
unfolding under
under-loaded c w = refl

seen_alike : (c d : ℕ) {v w : Walk} → EqualButType c d v w → seen v ≡ seen w
seen_alike c d {w = w} e = ap seen e.0 ∙ seen-under c w

after_same : (p q : Walked) → p.number ≡ q.number → seen p.walk ≡ seen q.walk → after p ≡ after q
unfolding after
after_same p q n e = λ i. record { number = n i; walk = e i }

load-done : (w : Walk) (image : List ℕ) (a : Arguments) → w.loaded ≡ false → first_met (judge_causes image a) ≡ 0
    → load_for w image a ≡ record { number = 0; walk = loaded_walk image a }
unfolding load_for load_causes first_met walked_to pick
load-done w image a e z = rw (e, z)

module _ (image other : List ℕ) (a b : Arguments) (s : SameButCode image other a b) where
  abbrev mine : ℕ
  mine = (accepted_answer image a).connection

  abbrev taken : ℕ
  taken = taken_as mine

  same_count : count_for other b ≡ count_for image a
  same_count =
      sym (cut-length (row_for b) (count_for other b) (up_to_leaves_end b.layout other (start_for other b))) ∙ ap length s.blocks
      ∙ cut-length (row_for a) (count_for image a) (up_to_leaves_end a.layout image (start_for image a))

  -- the loaded walks are equal but for the type
  loaded-type : loaded_walk other b ≡ under taken (loaded_walk image a)
  unfolding loaded_walk under accepted_answer
  loaded-type =
      let rows = same_rows mine s.connection s.chip s.level s.blocks in
      let default = same-default s.chip s.level s.blocks in
      λ i. record {
        loaded = true;
        connection = s.connection i;
        blocks = same_count i;
        rows = rows i;
        default_number = default i;
        settled = false;
        selected = none;
        looks = 0;
        switches = 0;
      }

  own-type : loaded_walk image a ≡ under mine (under taken (loaded_walk image a))
  unfolding loaded_walk under
  own-type = refl

  loaded-alike : EqualButType mine taken (loaded_walk image a) (loaded_walk other b)
  loaded-alike = (own-type ∙ ap (under mine) (sym loaded-type), loaded-type)

  -- two walks that are the same and not loaded, or equal but for the type
  abbrev Pair : Walk → Walk → Type 0
  Pair v w = ((v ≡ w) × (w.loaded ≡ false)) ⊎ EqualButType mine taken v w

  abbrev Step : Walked → Walked → Type 0
  Step p q = (after p ≡ after q) × Pair p.walk q.walk

  load-both : (v w : Walk) → v.loaded ≡ false → w.loaded ≡ false → Step (load_for v image a) (load_for w other b)
  load-both v w f g =
      rw (load-done v image a f s.accepts.0, load-done w other b g s.accepts.1)
      (after_same _ _ refl (seen_alike mine taken loaded-alike), inr loaded-alike)

  -- both are loaded now, or both were
  step-load : (v w : Walk) → Pair v w → Step (load_for v image a) (load_for w other b)
  step-load v w (inl (e, f)) = load-both v w (ap (λ (x : Walk). x.loaded) e ∙ f) f
  step-load v w (inr e) = go w.loaded refl (ap (λ (x : Walk). x.loaded) e.0 ∙ under-loaded mine w)
    where
      go : (t : Bool) → w.loaded ≡ t → v.loaded ≡ w.loaded → Step (load_for v image a) (load_for w other b)
      go true f g =
          rw (← load-loaded v image a (g ∙ f), ← load-loaded w other b f) (after_same _ _ refl (seen_alike mine taken e), inr e)
      go false f g = load-both v w (g ∙ f) f

  step-look : (v w : Walk) (report : List ℕ) → Pair v w → Step (look_for v report) (look_for w report)
  step-look v w report (inl (e, f)) = rw e (refl, inl (refl, (look-keeps w report).loaded ∙ f))
  step-look v w report (inr e) =
      let l = same_way mine taken (same-way-taken mine) v w e (report ∷ []) in
      (after_same _ _ l.0 (seen_alike mine taken l.1), inr l.1)

  step : (v w : Walk) → Pair v w → (c : Call) → Step (call image a v c) (call other b w c)
  unfolding call clear_for fresh_walk
  step v w p load = step-load v w p
  step v w p (look report) = step-look v w report p
  step v w p clear = (refl, inl (refl, refl))

  walked : (v w : Walk) → Pair v w → (calls : List Call) → run image a v calls ≡ run other b w calls
  unfolding run
  walked v w p [] = refl
  walked v w p (c ∷ calls) =
      let q = step v w p c in ap₂ (λ (x : After) (xs : List After). x ∷ xs) q.0
      (walked (call image a v c).walk (call other b w c).walk q.1 calls)

pub walked-as-taken : WalkedAsTaken
unfolding fresh_walk
walked-as-taken image other a b s calls = walked image other a b s fresh_walk fresh_walk (inl (refl, refl)) calls
