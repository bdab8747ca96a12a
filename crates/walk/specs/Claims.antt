-- What is claimed of single calls, and of lists of looks: under two types of one way, and under a fixed type. The crate `older`
-- claims what holds over lists of loads, looks and clears, and of the rows of loaded walks.
use Rattle.std.specs.Prelude.{ℕ, ◌≡◌, List, [], ◌∷◌, ◌++◌, map, replicate, true}
use Rattle.rom.specs.Refusal.{first_met, Exact}
use Rattle.format.specs.Chips.{connection_rows, taken_as}
use Rattle.image.specs.declared.Arguments.{Arguments}
use Rattle.reader.specs.Reading.{judge_causes}
use Rattle.walk.specs.declared.Walk.{Walk}
use Rattle.walk.specs.Walk.{flags, way_of, is_fixed, rows_of, fixed_block, most_looks, look_causes, load_causes, load_for}
use Rattle.walk.specs.Walk.{look_for, clear_for}
use Rattle.walk.specs.Cases.{looked, look_cases}
use Rattle.walk.specs.FixedCases.{looked_at, number_after, unless_missing, fixed_cases, type_of, fixed_tables, fixed_of}

-- ## Refusals (demand 1)

-- a refusal is exact: other than 0, its cause is met and none before it is; 0, none is met
abbrev pub ExactLoad : Type 0
ExactLoad = (w : Walk) (image : List ℕ) (a : Arguments) → Exact (load_causes w image a) (load_for w image a).number

abbrev pub ExactLook : Type 0
ExactLook = (w : Walk) (report : List ℕ) → Exact (look_causes w report) (look_for w report).number

-- and leaves the walk as it was
abbrev pub RefusedLoad : Type 0
RefusedLoad = (w : Walk) (image : List ℕ) (a : Arguments) → ((load_for w image a).number ≡ 0 → ⊥) → (load_for w image a).walk ≡ w

abbrev pub RefusedLook : Type 0
RefusedLook = (w : Walk) (report : List ℕ) → ((look_for w report).number ≡ 0 → ⊥) → (look_for w report).walk ≡ w

-- a loaded walk is not loaded again
abbrev pub LoadedOnce : Type 0
LoadedOnce = (w : Walk) (image : List ℕ) (a : Arguments) → w.loaded ≡ true → (load_for w image a).number ≡ 21

-- ## Fresh, and the steps of a look (demand 2)

-- a cleared walk is fresh: a look at it is refused with 20, and a load answers with the reader's number
abbrev pub ClearedIsFresh : Type 0
ClearedIsFresh = (w : Walk) →
    ((clear_for w).number ≡ 0)
    × ((report : List ℕ) → (look_for (clear_for w).walk report).number ≡ 20)
    × ((image : List ℕ) (a : Arguments) → (load_for (clear_for w).walk image a).number ≡ first_met (judge_causes image a))

-- the looks answer as they stand in the list of cases
abbrev pub LooksWorked : Type 0
LooksWorked = map looked look_cases ≡ look_cases

-- of 255 blocks each has its flag, and behind them there is none (document 02, request 6)
abbrev pub FlagsWorked : Type 0
FlagsWorked = flags (λ s. true) (replicate 255 []) ≡ replicate 255 1 ++ 0 ∷ []

-- ## The way to walk (document 02, request 4)

-- the walk under another connection type
unfoldable pub under : ℕ → Walk → Walk
under connection w = record {
  loaded = w.loaded;
  connection = connection;
  blocks = w.blocks;
  rows = w.rows;
  default_number = w.default_number;
  settled = w.settled;
  selected = w.selected;
  looks = w.looks;
  switches = w.switches;
}

-- two walks that are equal but for the connection type: c in the one and d in the other
abbrev pub EqualButType : ℕ → ℕ → Walk → Walk → Type 0
EqualButType c d v w = (v ≡ under c w) × (w ≡ under d v)

-- each look of a list is accepted by both or refused by both with the same number, and leaves them so
abbrev pub LookAlike : ℕ → ℕ → Walk → Walk → List (List ℕ) → Type 0
LookAlike c d v w [] = Unit {0}
LookAlike c d v w (report ∷ reports) =
    ((look_for v report).number ≡ (look_for w report).number)
    × EqualButType c d (look_for v report).walk (look_for w report).walk
    × LookAlike c d (look_for v report).walk (look_for w report).walk reports

-- types of one way are walked alike
abbrev pub SameWay : Type 0
SameWay = (c d : ℕ) → way_of c ≡ way_of d → (v w : Walk) → EqualButType c d v w → (reports : List (List ℕ)) → LookAlike c d v w reports

-- an empty connection word is walked as 0x8800
abbrev pub EmptyAsOnce : Type 0
EmptyAsOnce = (v w : Walk) → EqualButType 0xFFFF 0x8800 v w → (reports : List (List ℕ)) → LookAlike 0xFFFF 0x8800 v w reports

-- ## Fixed connections (document 02, request 5)

-- under a fixed type each accepted look of a list selects this block and settles
abbrev pub Selects : ℕ → Walk → List (List ℕ) → Type 0
Selects k w [] = Unit {0}
Selects k w (report ∷ reports) =
    ((look_for w report).number ≡ 0 → ((look_for w report).walk.selected ≡ k) × ((look_for w report).walk.settled ≡ true))
    × Selects k (look_for w report).walk reports

-- the same block whatever the reports say
abbrev pub FixedSelects : Type 0
FixedSelects = (w : Walk) → is_fixed (way_of w.connection) ≡ true → (reports : List (List ℕ)) → Selects (fixed_block w) w reports

-- looks at leaves with the fixed medium and without answer as they stand in the list of cases, with every link up and with none;
-- 32 comes before 23, and before 19
abbrev pub FixedWorked : Type 0
FixedWorked =
    (map (looked_at 1) fixed_cases ≡ fixed_cases)
    × (map (looked_at 0) fixed_cases ≡ fixed_cases)
    × (map (number_after most_looks) fixed_cases ≡ map (unless_missing 23) fixed_cases)
    × (map (number_after 0) fixed_cases ≡ map (unless_missing 19) fixed_cases)

-- and these are of each fixed type of each chip's row
abbrev pub FixedCovered : Type 0
FixedCovered = map (λ types. map type_of types) fixed_tables ≡ map fixed_of connection_rows

-- ## Codes of edition 1.00 (document 02, request 12)

-- a type and what it is taken as are of one way, and the rows of blocks are the same under both
abbrev pub TakenAlike : Type 0
TakenAlike = (connection row level : ℕ) (bs : List (List ℕ)) →
    (way_of connection ≡ way_of (taken_as connection)) × (rows_of connection row level bs ≡ rows_of (taken_as connection) row level bs)
