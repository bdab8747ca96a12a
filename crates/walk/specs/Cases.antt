-- Looks at a walk of five blocks, from each kind of state that the three steps tell apart (document 01, 'The walk'), and under
-- fixed types (document 02, request 5).
use Rattle.std.specs.Prelude.{ℕ, List, [], ◌∷◌, ◌++◌, Bool, true, false, replicate}
use Rattle.rom.specs.Geometry.{none}
use Rattle.walk.specs.declared.Walk.{Walk}
use Rattle.walk.specs.declared.Rows.{Rows}
use Rattle.walk.specs.Walk.{look_for}

-- a walk, a report, and what a look answers
pub record LookCase : Type 0 where
  pub before : Walk
  pub report : List ℕ
  pub number : ℕ
  pub after : Walk

unfoldable pub looked : LookCase → LookCase
looked c = record {
  before = c.before;
  report = c.report;
  number = (look_for c.before c.report).number;
  after = (look_for c.before c.report).walk;
}

-- ## The walk: block 1 is not listed, block 3 has Active_Invalid, and some blocks have the fixed medium

abbrev rows : List ℕ → Rows
rows fixed = record {
  listed = (1 ∷ 0 ∷ 1 ∷ 1 ∷ 1 ∷ []) ++ replicate 123 0;
  active_invalid = (0 ∷ 0 ∷ 0 ∷ 1 ∷ 0 ∷ []) ++ replicate 123 0;
  fixed = fixed ++ replicate 123 0;
}

-- with settled, selected, looks and switches
pub record State : Type 0 where
  pub settled : Bool
  pub selected : ℕ
  pub looks : ℕ
  pub switches : ℕ

abbrev stands : Bool → ℕ → ℕ → ℕ → State
stands settled selected looks switches = record { settled = settled; selected = selected; looks = looks; switches = switches }

abbrev walk : List ℕ → ℕ → ℕ → State → Walk
walk fixed connection default s = record {
  loaded = true;
  connection = connection;
  blocks = 5;
  rows = rows fixed;
  default_number = default;
  settled = s.settled;
  selected = s.selected;
  looks = s.looks;
  switches = s.switches;
}

-- which blocks have the fixed medium; connection type, default, state, report; number and state
abbrev look_of : List ℕ → ℕ → ℕ → State → List ℕ → ℕ → State → LookCase
look_of fixed connection default s report number next =
    record { before = walk fixed connection default s; report = report; number = number; after = walk fixed connection default next }

-- blocks 0 and 2 have it, which counts under a fixed type alone
abbrev look : ℕ → ℕ → State → List ℕ → ℕ → State → LookCase
look = look_of (1 ∷ 0 ∷ 1 ∷ 0 ∷ 0 ∷ [])

-- blocks 2 and 3 have it
abbrev look_invalid : ℕ → ℕ → State → List ℕ → ℕ → State → LookCase
look_invalid = look_of (0 ∷ 0 ∷ 1 ∷ 1 ∷ 0 ∷ [])

-- no block has it
abbrev look_without : ℕ → ℕ → State → List ℕ → ℕ → State → LookCase
look_without = look_of (0 ∷ 0 ∷ 0 ∷ 0 ∷ 0 ∷ [])

-- ## The cases

unfoldable pub look_cases : List LookCase
look_cases =
    -- not settled: all listed blocks are candidates, from the last to the first
    look 0x0800 none (stands false none 0 0) (1 ∷ 1 ∷ 1 ∷ 1 ∷ 1 ∷ []) 0 (stands true 4 1 1)
    ∷ look 0x0800 none (stands false none 0 0) (1 ∷ 1 ∷ 0 ∷ 1 ∷ 0 ∷ []) 0 (stands true 3 1 1)
    ∷ look 0x0800 0 (stands false none 0 0) (0 ∷ 0 ∷ 1 ∷ 0 ∷ 0 ∷ []) 0 (stands true 2 1 1)
    -- none is up: the default, or none
    ∷ look 0x0800 0 (stands false none 0 0) (0 ∷ 1 ∷ 0 ∷ 0 ∷ 0 ∷ []) 0 (stands false 0 1 1)
    ∷ look 0x0800 none (stands false none 0 0) (0 ∷ 1 ∷ 0 ∷ 0 ∷ 0 ∷ []) 0 (stands false none 1 0)
    -- on the default and not settled: it does not stay
    ∷ look 0x0800 0 (stands false 0 1 1) (1 ∷ 0 ∷ 0 ∷ 1 ∷ 0 ∷ []) 0 (stands true 3 2 2)
    -- settled: it stays while it is up, or with Active_Invalid, or where the type is autosensed once
    ∷ look 0x0800 none (stands true 2 1 1) (0 ∷ 0 ∷ 1 ∷ 0 ∷ 1 ∷ []) 0 (stands true 2 2 1)
    ∷ look 0x0900 none (stands true 3 1 1) (1 ∷ 0 ∷ 0 ∷ 0 ∷ 1 ∷ []) 0 (stands true 3 2 1)
    ∷ look 0x8800 none (stands true 2 1 1) (1 ∷ 0 ∷ 0 ∷ 0 ∷ 1 ∷ []) 0 (stands true 2 2 1)
    ∷ look 0xFFFF none (stands true 2 1 1) (1 ∷ 0 ∷ 0 ∷ 0 ∷ 1 ∷ []) 0 (stands true 2 2 1)
    ∷ look 0x0900 none (stands true 2 1 1) (1 ∷ 0 ∷ 0 ∷ 0 ∷ 1 ∷ []) 0 (stands true 4 2 2)
    -- settled and not staying: candidates are those without Active_Invalid
    ∷ look 0x0800 none (stands true 4 1 1) (1 ∷ 0 ∷ 0 ∷ 1 ∷ 0 ∷ []) 0 (stands true 0 2 2)
    ∷ look 0x0800 2 (stands true 4 1 1) (0 ∷ 1 ∷ 0 ∷ 1 ∷ 0 ∷ []) 0 (stands true 2 2 2)
    ∷ look 0x0800 none (stands true 4 1 1) (0 ∷ 0 ∷ 0 ∷ 1 ∷ 0 ∷ []) 0 (stands true none 2 2)
    ∷ look 0x8800 none (stands true none 2 2) (1 ∷ 0 ∷ 0 ∷ 1 ∷ 0 ∷ []) 0 (stands true 0 3 3)
    ∷ look 0x8800 none (stands true none 2 2) (0 ∷ 0 ∷ 0 ∷ 1 ∷ 0 ∷ []) 0 (stands true none 3 2)
    -- under an empty connection word: the default until a link is up, and settled without a block it senses again
    ∷ look 0xFFFF 0 (stands false none 0 0) (0 ∷ 1 ∷ 0 ∷ 0 ∷ 0 ∷ []) 0 (stands false 0 1 1)
    ∷ look 0xFFFF 0 (stands false 0 1 1) (1 ∷ 0 ∷ 0 ∷ 1 ∷ 0 ∷ []) 0 (stands true 3 2 2)
    ∷ look 0xFFFF none (stands true none 2 2) (1 ∷ 0 ∷ 0 ∷ 1 ∷ 0 ∷ []) 0 (stands true 0 3 3)
    -- the last look that is counted
    ∷ look 0x0800 none (stands true 4 65534 7) (0 ∷ 0 ∷ 0 ∷ 0 ∷ 0 ∷ []) 0 (stands true none 65535 8)
    -- under a fixed type: the first in table order that has the medium, whatever is up, selected or the default, with
    -- Active_Invalid or without; and counted
    ∷ look 0x0003 none (stands false none 0 0) (0 ∷ 0 ∷ 0 ∷ 0 ∷ 0 ∷ []) 0 (stands true 2 1 1)
    ∷ look 0x0003 0 (stands true 2 1 1) (1 ∷ 1 ∷ 0 ∷ 1 ∷ 1 ∷ []) 0 (stands true 2 2 1)
    ∷ look 0x0009 4 (stands true 3 1 1) (0 ∷ 0 ∷ 0 ∷ 1 ∷ 0 ∷ []) 0 (stands true 2 2 2)
    ∷ look_invalid 0x0003 none (stands false none 0 0) (0 ∷ 0 ∷ 0 ∷ 0 ∷ 0 ∷ []) 0 (stands true 3 1 1)
    ∷ look_invalid 0x0003 none (stands true 2 1 1) (0 ∷ 0 ∷ 1 ∷ 0 ∷ 0 ∷ []) 0 (stands true 3 2 2)
    ∷ look 0xFFFE none (stands false 0 65534 7) (1 ∷ 0 ∷ 0 ∷ 0 ∷ 1 ∷ []) 0 (stands true 2 65535 8)
    ∷ look 0x0003 none (stands true 2 65535 1) [] 23 (stands true 2 65535 1)
    ∷ look 0x0003 none (stands false none 0 0) (0 ∷ 0 ∷ 2 ∷ 0 ∷ 0 ∷ []) 19 (stands false none 0 0)
    ∷ look 0x0003 none (stands true 2 1 1) (0 ∷ 0 ∷ 0 ∷ 0 ∷ []) 19 (stands true 2 1 1)
    -- 32 before 23 before 19, and 32 under a fixed type alone
    ∷ look_without 0x0000 none (stands false none 65535 0) [] 32 (stands false none 65535 0)
    ∷ look_without 0x0003 0 (stands false none 0 0) (1 ∷ 1 ∷ 1 ∷ 1 ∷ 1 ∷ []) 32 (stands false none 0 0)
    ∷ look_without 0x0003 0 (stands false none 0 0) (1 ∷ 2 ∷ []) 32 (stands false none 0 0)
    ∷ look_without 0xFFFE none (stands true 4 65535 7) (1 ∷ 1 ∷ 1 ∷ 1 ∷ 1 ∷ []) 32 (stands true 4 65535 7)
    ∷ look_without 0x0800 none (stands false none 0 0) (1 ∷ 0 ∷ 0 ∷ 0 ∷ 0 ∷ []) 0 (stands true 0 1 1)
    ∷ look_without 0xFFFF none (stands false none 65535 0) [] 23 (stands false none 65535 0)
    ∷ look 0x0800 none (stands true 4 65535 7) [] 23 (stands true 4 65535 7)
    ∷ look 0x0800 none (stands false none 0 0) (1 ∷ 1 ∷ 1 ∷ 1 ∷ []) 19 (stands false none 0 0)
    ∷ look 0x0800 none (stands true 4 1 1) (1 ∷ 2 ∷ 1 ∷ 1 ∷ 0 ∷ []) 19 (stands true 4 1 1)
    -- bytes behind the block count are ignored
    ∷ look 0x0800 none (stands false none 0 0) (0 ∷ 0 ∷ 0 ∷ 0 ∷ 1 ∷ 2 ∷ []) 0 (stands true 4 1 1)
    ∷ []
