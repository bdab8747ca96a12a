-- Two walks that stand alike, where no removed block matters: one look by what it goes by, and lists of calls by induction.
-- Assumes nothing.
use Prim.Native.Nat.{ℕ, zero, suc}
use mathlib.Core.List.{List, [], ◌∷◌}
use mathlib.Core.Path.{◌≡◌, refl, ap, sym, ◌∙◌}
use mathlib.Core.Bool.{Bool, true, false, ◌&&◌, true≢false}
use lib.Dec.{eqb}
use borrow.Author.Tests.{eqb-true}
use Rattle.rom.specs.Geometry.{none}
use Rattle.rom.specs.Bytes.{pick}
use Rattle.rom.specs.Refusal.{first_met}
use Rattle.rom.proofs.Truth.{and-false}
use Rattle.image.specs.declared.Arguments.{Arguments}
use Rattle.walk.specs.declared.Walk.{Walk}
use Rattle.walk.specs.declared.Way.{Way}
use Rattle.walk.specs.declared.Way.TheVariants.{EveryLook, Once, Fixed}
use Rattle.walk.specs.Walk.{Choice, way_of, is_fixed, is_up, fresh_walk, last_below, stays, is_candidate, first_up, up_in, choice}
use Rattle.walk.specs.Walk.{sensed, fixed_block}
use Rattle.walk.specs.Walk.{chosen, stepped, look_causes, walked_to, load_for, look_for, clear_for}
use Rattle.walk.proofs.Loads.{load-loaded}
use Rattle.walk.proofs.Looks.{SameLeaf, look-keeps}
use Rattle.walk.proofs.Fixed.{fixed-chosen, sensed-chosen}
use Rattle.older.specs.Calls.{Call, load, look, clear, call, Seen, fresh, loaded, seen, After, after, run, Each, DownAt, QuietAt}
use Rattle.older.specs.Alike.{Alike, DefaultKept, Kept, SameState, StandAlike}
use Rattle.older.specs.Claims.{SeenTells, AfterTells, OneLook}

-- ## Searches

pub last-same : (p q : ℕ → Bool) → ((k : ℕ) → p k ≡ q k) → (n : ℕ) → last_below p n ≡ last_below q n
unfolding last_below
last-same p q h zero = refl
last-same p q h (suc n) = rw (h n, last-same p q h n)

-- what a search finds is not removed
last-kept : (removed p : ℕ → Bool) → removed none ≡ false → ((k : ℕ) → removed k ≡ true → p k ≡ false) → (n : ℕ)
    → removed (last_below p n) ≡ false
unfolding last_below pick
last-kept removed p z h zero = z
last-kept removed p z h (suc n) = go (p n) (removed n) refl refl (last-kept removed p z h n)
  where
    go : (x y : Bool) → p n ≡ x → removed n ≡ y → removed (last_below p n) ≡ false → removed (pick x n (last_below p n)) ≡ false
    go true true e r ih = absurd (true≢false (sym e ∙ h n r))
    go true false e r ih = r
    go false y e r ih = ih

-- two searches, the second of which takes no more, and as much at blocks that are not removed: where the first finds no
-- removed block, both find the same
last-fewer : (removed p q : ℕ → Bool) → ((k : ℕ) → removed k ≡ false → q k ≡ p k) → ((k : ℕ) → p k ≡ false → q k ≡ false) → (n : ℕ)
    → removed (last_below p n) ≡ false
    → last_below q n ≡ last_below p n
unfolding last_below pick
last-fewer removed p q same fewer zero r = refl
last-fewer removed p q same fewer (suc n) r = go (p n) refl (last-fewer removed p q same fewer n) r
  where
    go : (x : Bool) → p n ≡ x → (removed (last_below p n) ≡ false → last_below q n ≡ last_below p n)
        → removed (pick x n (last_below p n)) ≡ false
        → pick (q n) n (last_below q n) ≡ pick x n (last_below p n)
    go true e ih r = rw (same n r ∙ e)
    go false e ih r = rw (fewer n e) (ih r)

-- so the choices under a fixed type are the same
pub choice-same : (removed : ℕ → Bool) (new old : Walk) → Alike removed new old → removed (fixed_block new) ≡ false
    → fixed_block old ≡ fixed_block new
unfolding fixed_block
choice-same removed new old leaf kept = rw leaf.blocks (last-fewer removed _ _ leaf.fixed leaf.fewer new.blocks kept)

-- ## One look

module _ (removed : ℕ → Bool) (new old : Walk) (report : List ℕ) (nowhere : removed none ≡ false)
    (together : StandAlike removed new old) where
  abbrev leaf : Alike removed new old
  leaf = together.alike

  abbrev state : SameState new old
  state = together.state

  -- ## The answer, by its causes and its choice

  stepped-alike : chosen old report ≡ chosen new report → removed (chosen new report).selected ≡ false
      → StandAlike removed (stepped new report) (stepped old report)
  unfolding stepped
  stepped-alike same kept = record {
    alike = record {
      connection = leaf.connection;
      blocks = leaf.blocks;
      listed = leaf.listed;
      invalid = leaf.invalid;
      fixed = leaf.fixed;
      fewer = leaf.fewer;
    };
    state = record {
      loaded = state.loaded;
      settled = rw same;
      selected = rw same;
      looks = rw state.looks;
      switches = rw (same, state.switches, state.selected);
    };
    kept = kept;
  }

  abbrev Looked : Type 0
  Looked = ((look_for old report).number ≡ (look_for new report).number)
      × StandAlike removed (look_for new report).walk (look_for old report).walk

  looked : look_causes old report ≡ look_causes new report
      → (first_met (look_causes new report) ≡ 0 → (chosen old report ≡ chosen new report) × (removed (chosen new report).selected ≡ false))
      → Looked
  unfolding look_for walked_to pick
  looked causes h = go (eqb (first_met (look_causes new report)) 0) refl
    where
      go : (b : Bool) → eqb (first_met (look_causes new report)) 0 ≡ b → Looked
      go true e =
          let c = h (eqb-true (first_met (look_causes new report)) 0 e) in
          rw (causes, e) (refl, stepped-alike c.0 c.1)
      go false e = rw (causes, e) (refl, together)

  -- the causes are the same where the fixed medium is missing at both or at neither
  causes-same : (is_fixed (way_of old.connection) && eqb (fixed_block old) none)
      ≡ (is_fixed (way_of new.connection) && eqb (fixed_block new) none)
      → look_causes old report ≡ look_causes new report
  unfolding look_causes
  causes-same lacks = rw (lacks, state.loaded, state.looks, leaf.blocks)

  way_same : is_fixed (way_of old.connection) ≡ is_fixed (way_of new.connection)
  way_same = ap (λ (c : ℕ). is_fixed (way_of c)) leaf.connection

  -- ## Where the type is autosensed

  stays_same : stays old report ≡ stays new report
  unfolding stays
  stays_same = rw (state.settled, state.selected, leaf.connection, leaf.invalid new.selected together.kept)

  module _ (quiet : (k : ℕ) → removed k ≡ true → is_up report k ≡ false) (default : DefaultKept removed new old) where
    candidate : Walk → ℕ → Bool
    candidate w k = is_candidate w.rows.listed w.rows.active_invalid new.settled k

    up_same : up_in old report ≡ up_in new report
    unfolding up_in first_up is_candidate candidate
    up_same = rw (leaf.blocks, state.settled) (last-same _ _ (λ k. go k (removed k) refl) new.blocks)
      where
        go : (k : ℕ) (y : Bool) → removed k ≡ y → (candidate old k && is_up report k) ≡ (candidate new k && is_up report k)
        go k true r = rw (quiet k r) (and-false (candidate old k) ∙ sym (and-false (candidate new k)))
        go k false r = rw (leaf.listed k r, leaf.invalid k r)

    up_kept : removed (up_in new report) ≡ false
    unfolding up_in first_up candidate
    up_kept = last-kept removed _ nowhere (λ k r. rw (quiet k r) (and-false (candidate new k))) new.blocks

    sensed-same : sensed old report ≡ sensed new report
    unfolding sensed
    sensed-same = rw (stays_same, up_same, default.same, state.settled, state.selected)

    sensed-kept : removed (sensed new report).selected ≡ false
    unfolding sensed pick
    sensed-kept = go (stays new report) (eqb (up_in new report) none)
      where
        go : (t u : Bool)
            → removed
            (pick t (choice new.settled new.selected)
            (pick u (choice new.settled new.default_number) (choice true (up_in new report)))).selected ≡ false
        go true u = together.kept
        go false true = default.kept
        go false false = up_kept

  autosensed-alike : is_fixed (way_of new.connection) ≡ false → DefaultKept removed new old → DownAt removed new (look report) → Looked
  autosensed-alike autosensed d h =
      let old-sensed = sensed-chosen old report (way_same ∙ autosensed) in
      let new-sensed = sensed-chosen new report autosensed in
      looked (causes-same (rw (way_same, autosensed) refl))
      (λ z. (
        old-sensed ∙ sensed-same (h z) d ∙ sym new-sensed,
        ap (λ (c : Choice). removed c.selected) new-sensed ∙ sensed-kept (h z) d,
      ))

  -- ## Where it is fixed

  fixed_alike : is_fixed (way_of new.connection) ≡ true → removed (fixed_block new) ≡ false → Looked
  fixed_alike fixed kept =
      let same = choice-same removed new old leaf kept in
      let new-chosen = fixed-chosen new report fixed in
      looked (causes-same (rw (same, way_same) refl))
      (λ z. (
        fixed-chosen old report (way_same ∙ fixed) ∙ ap (choice true) same ∙ sym new-chosen,
        ap (λ (c : Choice). removed c.selected) new-chosen ∙ kept,
      ))

pub one-look : OneLook
one-look removed new old report nowhere together = go (way_of new.connection) refl
  where
    go : (way : Way) → way_of new.connection ≡ way → Kept way removed new old → QuietAt way removed new (look report)
        → ((look_for old report).number ≡ (look_for new report).number)
        × StandAlike removed (look_for new report).walk (look_for old report).walk
    go EveryLook e d h = autosensed-alike removed new old report nowhere together (ap is_fixed e) d h
    go Once e d h = autosensed-alike removed new old report nowhere together (ap is_fixed e) d h
    go Fixed e kept h = fixed_alike removed new old report nowhere together (ap is_fixed e) kept

-- ## What is seen

settled_in : Seen → Bool
settled_in fresh = false
settled_in (loaded s x l n) = s

selected_in : Seen → ℕ
selected_in fresh = 0
selected_in (loaded s x l n) = x

looks_in : Seen → ℕ
looks_in fresh = 0
looks_in (loaded s x l n) = l

abbrev pub switches_in : Seen → ℕ
switches_in fresh = 0
switches_in (loaded s x l n) = n

pub seen-tells : SeenTells
unfolding seen pick settled_in selected_in looks_in
seen-tells v w a b e =
    let f : loaded v.settled v.selected v.looks v.switches ≡ loaded w.settled w.selected w.looks w.switches =
    rw (a, b) at e in
    (ap settled_in f, ap selected_in f, ap looks_in f, ap switches_in f)

pub after-tells : AfterTells
unfolding after
after-tells p q e = (ap (λ (x : After). x.number) e, ap (λ (x : After). x.walk) e)

-- ## Lists of calls

-- both fresh, or loaded and standing alike, under a type of the way
pub data Pair (way : Way) (removed : ℕ → Bool) : Walk → Walk → Type 0 where
  idle : Pair way removed fresh_walk fresh_walk
  on : {new old : Walk} → new.loaded ≡ true → way_of new.connection ≡ way → Kept way removed new old → StandAlike removed new old
      → Pair way removed new old

seen_same : {way : Way} {removed : ℕ → Bool} {new old : Walk} → Pair way removed new old → seen old ≡ seen new
unfolding seen
seen_same idle = refl
seen_same (on l e k s) = rw (s.state.loaded, s.state.settled, s.state.selected, s.state.looks, s.state.switches)

pub fresh-look : (report : List ℕ) → look_for fresh_walk report ≡ record { number = 20; walk = fresh_walk }
unfolding look_for look_causes first_met walked_to pick fresh_walk
fresh-look report = refl

-- a look leaves what is kept
default-on : (removed : ℕ → Bool) {v w next older : Walk} → SameLeaf v next → SameLeaf w older → DefaultKept removed v w
    → DefaultKept removed next older
default-on removed n o k = record { same = o.«default» ∙ k.same ∙ sym n.«default»; kept = ap removed n.«default» ∙ k.kept }

kept_on : (way : Way) (removed : ℕ → Bool) {v w next older : Walk} → SameLeaf v next → SameLeaf w older → Kept way removed v w
    → Kept way removed next older
kept_on EveryLook removed n o k = default-on removed n o k
kept_on Once removed n o k = default-on removed n o k
kept_on Fixed removed n o k = ap removed n.fixed ∙ k

module _ (way : Way) (removed : ℕ → Bool) (nowhere : removed none ≡ false) (image : List ℕ) (newest older : Arguments) (new old : Walk)
    (new-loads : load_for fresh_walk image newest ≡ record { number = 0; walk = new })
    (old-loads : load_for fresh_walk image older ≡ record { number = 0; walk = old })
    (loads : Pair way removed new old) where
  -- one call: the same number, and the walks after it
  abbrev Step : Walk → Walk → Call → Type 0
  Step v w c = ((call image older w c).number ≡ (call image newest v c).number)
      × Pair way removed (call image newest v c).walk (call image older w c).walk

  load_step : {v w : Walk} → Pair way removed v w → Step v w load
  unfolding call
  load_step idle = rw (new-loads, old-loads) (refl, loads)
  load_step {v} {w} (on l e k s) =
      rw (← load-loaded v image newest l, ← load-loaded w image older (s.state.loaded ∙ l)) (refl, on l e k s)

  look-step : {v w : Walk} (report : List ℕ) → Pair way removed v w → QuietAt way removed v (look report) → Step v w (look report)
  unfolding call
  look-step report idle h = rw (fresh-look report) (refl, idle)
  look-step {v} {w} report (on l e k s) h =
      let r = one-look removed v w report nowhere s (rw e k) (rw e h) in
      let n = look-keeps v report in
      let o = look-keeps w report in
      (r.0, on (n.loaded ∙ l) (ap way_of n.connection ∙ e) (kept_on way removed n o k) r.1)

  step : {v w : Walk} (c : Call) → Pair way removed v w → QuietAt way removed v c → Step v w c
  unfolding call clear_for
  step load p h = load_step p
  step (look report) p h = look-step report p h
  step clear p h = (refl, idle)

  run-same : {v w : Walk} → Pair way removed v w → (cs : List Call) → Each (QuietAt way removed) image newest v cs
      → run image newest v cs ≡ run image older w cs
  unfolding run after
  run-same p [] h = refl
  run-same {v = v} {w = w} p (c ∷ cs) h =
      let t = step c p h.0 in
      rw (t.0, seen_same t.1, run-same {v = (call image newest v c).walk} {w = (call image older w c).walk} t.1 cs h.1)

  pub runs-agree : (cs : List Call) → Each (QuietAt way removed) image newest fresh_walk cs
      → run image newest fresh_walk cs ≡ run image older fresh_walk cs
  runs-agree cs h = run-same idle cs h
