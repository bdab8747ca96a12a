-- A reached walk stands on no block or on an entry: a default is listed, and so is every candidate and every block of the fixed
-- medium. Assumes nothing.
use Prim.Native.Nat.{ℕ, zero, suc}
use native.Mathlib.Nat.{zero-add}
use mathlib.Core.List.{List, []}
use mathlib.Core.Path.{◌≡◌, refl, sym, ◌∙◌}
use mathlib.Core.Bool.{Bool, true, false}
use mathlib.Core.Logic.{◌⊎◌, inl, inr}
use lib.Dec.{eqb}
use lib.ListN.{get_or}
use Rattle.rom.specs.Bytes.{pick}
use Rattle.rom.specs.Refusal.{first_met}
use Rattle.rom.proofs.Truth.{and-true}
use Rattle.image.specs.declared.Arguments.{Arguments}
use Rattle.image.specs.Arguments.{row_for}
use Rattle.format.specs.Block.{is_listed, is_default}
use Rattle.leaf.specs.Leaf.{first_from}
use Rattle.reader.specs.Reading.{blocks_for, accepted_answer}
use Rattle.walk.specs.declared.Walk.{Walk}
use Rattle.rom.specs.Geometry.{none}
use Rattle.walk.specs.Walk.{way_of, is_fixed, no_flags, flags, flag_at, is_fixed_medium, is_up, no_rows, rows_of, fresh_walk}
use Rattle.walk.specs.Walk.{loaded_walk, last_below}
use Rattle.walk.specs.Walk.{stays, is_candidate, first_up, up_in, choice, sensed, fixed_block, chosen, stepped}
use Rattle.walk.specs.Walk.{look_causes, load_causes, walked_to, load_for, look_for, clear_for}
use Rattle.older.specs.FromFresh.{FromFresh, fresh, load, look, clear}
use Rattle.older.specs.Claims.{StandsOnEntry}
use Rattle.older.proofs.Order.{fixed-within}
use Rattle.older.proofs.Numbered.{FoundFirst, found_first, absent, at, block_at, default-listed, flag-block}

-- no block, or one that is listed
abbrev OnEntry : List ℕ → ℕ → Type 0
OnEntry listed x = (x ≡ none) ⊎ (flag_at listed x ≡ true)

record StandsListed (w : Walk) : Type 0 where
  selected : OnEntry w.rows.listed w.selected
  «default» : OnEntry w.rows.listed w.default_number
  fixed : (k : ℕ) → flag_at w.rows.fixed k ≡ true → flag_at w.rows.listed k ≡ true

-- ## A candidate is listed

last_on : (listed : List ℕ) (p : ℕ → Bool) → ((k : ℕ) → p k ≡ true → flag_at listed k ≡ true) → (n : ℕ) → OnEntry listed (last_below p n)
unfolding last_below pick
last_on listed p h zero = inl refl
last_on listed p h (suc n) = go (p n) refl (last_on listed p h n)
  where
    go : (t : Bool) → p n ≡ t → OnEntry listed (last_below p n) → OnEntry listed (pick t n (last_below p n))
    go true e ih = inr (h n e)
    go false e ih = ih

up-on : (w : Walk) (report : List ℕ) → OnEntry w.rows.listed (up_in w report)
unfolding up_in first_up is_candidate
up-on w report =
    last_on w.rows.listed _
    (λ k e. (and-true (flag_at w.rows.listed k) _
    (and-true (is_candidate w.rows.listed w.rows.active_invalid w.settled k) (is_up report k) e).0).0) w.blocks

-- ## A default is listed

default-on-entry : (row level : ℕ) (bs : List (List ℕ)) → OnEntry (flags (is_listed row level) bs) (first_from (is_default row level) 0 bs)
default-on-entry row level bs = go (first_from (is_default row level) 0 bs) (found_first (is_default row level) 0 bs)
  where
    go : (d : ℕ) → FoundFirst (is_default row level) 0 bs d → OnEntry (flags (is_listed row level) bs) d
    go d absent = inl refl
    go d (at j q b) =
        let t = block_at (is_default row level) (is_listed row level) bs j b in
        let e : d ≡ j = q ∙ zero-add j in
        inr (rw e (flag-block (is_listed row level) bs j ∙ t.1 ∙ default-listed row level (get_or bs j []) t.0))

-- ## A block of the fixed medium is listed

fixed_on : (connection row level : ℕ) (bs : List (List ℕ)) (k : ℕ) → flag_at (flags (is_fixed_medium connection row level) bs) k ≡ true
    → flag_at (flags (is_listed row level) bs) k ≡ true
fixed_on connection row level bs k e =
    flag-block (is_listed row level) bs k
    ∙ (and-true _ _ (sym (fixed-within connection row level bs k) ∙ sym (flag-block (is_fixed_medium connection row level) bs k) ∙ e)).0

-- ## Calls

stands-fresh : StandsListed fresh_walk
unfolding fresh_walk no_rows no_flags
stands-fresh = record { selected = inl refl; «default» = inl refl; fixed = λ k e. e }

module _ (w : Walk) (s : StandsListed w) where
  stands-load : (image : List ℕ) (a : Arguments) → StandsListed (load_for w image a).walk
  unfolding load_for walked_to loaded_walk rows_of accepted_answer pick
  stands-load image a = go (eqb (first_met (load_causes w image a)) 0)
    where
      go : (t : Bool) → StandsListed (pick t (loaded_walk image a) w)
      go true = record {
        selected = inl refl;
        «default» = default-on-entry (row_for a) a.level (blocks_for image a);
        fixed = fixed_on (accepted_answer image a).connection (row_for a) a.level (blocks_for image a);
      }
      go false = s

  sensed-on : (report : List ℕ) → OnEntry w.rows.listed (sensed w report).selected
  unfolding sensed pick
  sensed-on report = go (stays w report) (eqb (up_in w report) none)
    where
      go : (t u : Bool)
          → OnEntry w.rows.listed
          (pick t (choice w.settled w.selected)
          (pick u (choice w.settled w.default_number) (choice true (up_in w report)))).selected
      go true u = s.selected
      go false true = s.«default»
      go false false = up-on w report

  chosen_on : (report : List ℕ) → OnEntry w.rows.listed (chosen w report).selected
  unfolding chosen fixed_block pick
  chosen_on report = go (is_fixed (way_of w.connection))
    where
      go : (t : Bool) → OnEntry w.rows.listed (pick t (choice true (fixed_block w)) (sensed w report)).selected
      go true = last_on w.rows.listed (flag_at w.rows.fixed) s.fixed w.blocks
      go false = sensed-on report

  stands-look : (report : List ℕ) → StandsListed (look_for w report).walk
  unfolding look_for walked_to stepped pick
  stands-look report = go (eqb (first_met (look_causes w report)) 0)
    where
      go : (t : Bool) → StandsListed (pick t (stepped w report) w)
      go true = record { selected = chosen_on report; «default» = s.«default»; fixed = s.fixed }
      go false = s

stands-listed : (w : Walk) → FromFresh w → StandsListed w
unfolding clear_for
stands-listed u fresh = stands-fresh
stands-listed u (load {w} image a r) = stands-load w (stands-listed w r) image a
stands-listed u (look {w} report r) = stands-look w (stands-listed w r) report
stands-listed u (clear r) = stands-fresh

pub stands-on-entry : StandsOnEntry
stands-on-entry w r = (stands-listed w r).selected
