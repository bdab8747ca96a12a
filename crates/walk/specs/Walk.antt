-- The autosense walk: its state, and what each call answers (document 01, 'The walk'; document 02, requests 4, 5 and 12). The
-- state is the code's struct `Walk`. A walk that is passed in may hold anything, so a flag past a row's end is none, and
-- switches stay at their most.
use Rattle.std.specs.Prelude.{ℕ, zero, suc, ◌+◌, ◌-◌, ◌%◌, List, [], ◌∷◌, ◌++◌, map, Bool, true, false, ◌||◌, ◌&&◌, not, eqb, ltb}
use Rattle.std.specs.Prelude.{length, replicate}
use Rattle.std.specs.Prelude.{Result}
use Rattle.rom.specs.declared.refusal.Refusal.{Refusal}
use Rattle.rom.specs.Numbers.{answer_number}
use Rattle.rom.specs.Geometry.{none}
use Rattle.rom.specs.Bytes.{pick, byte_at, bit, is_in, one, any_below}
use Rattle.rom.specs.Refusal.{Cause, ◌⇒◌, first_met}
use Rattle.format.specs.Chips.{taken_as}
use Rattle.format.specs.Block.{kind_of, facts_of, is_listed}
use Rattle.image.specs.declared.Arguments.{Arguments}
use Rattle.image.specs.Arguments.{row_for}
use Rattle.reader.specs.Reading.{blocks_for, judge_causes, accepted_answer}
use Rattle.walk.specs.declared.Walk.{Walk}
use Rattle.walk.specs.declared.Walked.{Walked}
use Rattle.walk.specs.declared.Rows.{Rows}
use Rattle.walk.specs.declared.Way.{Way}
use Rattle.walk.specs.declared.Way.TheVariants.{EveryLook, Once, Fixed}

-- ## Connection types: the ways to walk

-- autosensed at every look
unfoldable pub every_look : List ℕ
every_look = 0x0800 ∷ 0x0900 ∷ []

-- autosensed once: a settled walk stays. An empty word, 0xFFFF, is walked as 0x8800 (document 02, request 4)
unfoldable pub once : List ℕ
once = 0x8800 ∷ 0xFFFF ∷ []

-- every other is fixed
unfoldable pub way_of : ℕ → Way
way_of connection = pick (is_in connection every_look) EveryLook (pick (is_in connection once) Once Fixed)

-- whether a settled walk stays
abbrev pub is_once : Way → Bool
is_once EveryLook = false
is_once Once = true
is_once Fixed = false

-- whether looks go by the fixed medium
abbrev pub is_fixed : Way → Bool
is_fixed EveryLook = false
is_fixed Once = false
is_fixed Fixed = true

-- ## The medium that a type is fixed to (document 02, request 5)

-- the low byte, which is a media code where it is below 9
abbrev pub low_byte : ℕ → ℕ
low_byte connection = connection % 256

abbrev pub media_codes : ℕ
media_codes = 9

-- the bits of a capability word
abbrev pub capability_10base_t : ℕ
capability_10base_t = 11

abbrev pub capability_10base_t_full_duplex : ℕ
capability_10base_t_full_duplex = 12

abbrev pub capability_100base_tx : ℕ
capability_100base_tx = 13

abbrev pub capability_100base_tx_full_duplex : ℕ
capability_100base_tx_full_duplex = 14

abbrev pub capability_100base_t4 : ℕ
capability_100base_t4 = 15

-- the other types name a capability bit of a PHY, but for 0x0010 and 0x0211, which name none
unfoldable pub is_capable : ℕ → ℕ → Bool
is_capable connection capabilities =
    pick (eqb connection 0x0009) (bit capability_10base_t capabilities)
    (pick (eqb connection 0x020A) (bit capability_10base_t_full_duplex capabilities)
    (pick (eqb connection 0x000D) (bit capability_100base_tx capabilities)
    (pick (eqb connection 0x020E) (bit capability_100base_tx_full_duplex capabilities)
    (pick (eqb connection 0x000F) (bit capability_100base_t4 capabilities) false))))

-- whether a block with this media code and these capabilities has the medium: a PHY has no media code, and no other block
-- has capabilities
unfoldable pub has_medium : ℕ → ℕ → ℕ → Bool
has_medium connection code capabilities =
    pick (ltb (low_byte connection) media_codes) (eqb code (low_byte connection)) (is_capable connection capabilities)

-- ## Rows of flags

abbrev pub row_length : ℕ
row_length = 256

unfoldable pub no_flags : List ℕ
no_flags = replicate row_length 0

-- by block number: 1 for a block that p takes, and zeros behind the last block
unfoldable pub flags : (List ℕ → Bool) → List (List ℕ) → List ℕ
flags p bs = map (λ s. one (p s)) bs ++ replicate (row_length - length bs) 0

-- whether block k is there and p takes it
unfoldable pub block_is : (List ℕ → Bool) → List (List ℕ) → ℕ → Bool
block_is p [] k = false
block_is p (s ∷ bs) zero = p s
block_is p (s ∷ bs) (suc k) = block_is p bs k

-- whether block k's flag is 1
unfoldable pub flag_at : List ℕ → ℕ → Bool
flag_at row k = eqb (byte_at row k) 1

-- a listed block that has Active_Invalid
unfoldable pub is_invalid : ℕ → ℕ → List ℕ → Bool
is_invalid row level s = is_listed row level s && (facts_of (kind_of row s) s).active_invalid

-- a listed block that has the fixed medium; none where the type is not fixed. A code of edition 1.00 is taken as that of 1.01
-- (document 02, request 12)
unfoldable pub is_fixed_medium : ℕ → ℕ → ℕ → List ℕ → Bool
is_fixed_medium connection row level s =
    let facts = facts_of (kind_of row s) s in
    is_listed row level s && (is_fixed (way_of connection) && has_medium (taken_as connection) facts.code facts.capabilities)

-- no flag in any row
unfoldable pub no_rows : Rows
no_rows = record { listed = no_flags; active_invalid = no_flags; fixed = no_flags }

unfoldable pub rows_of : ℕ → ℕ → ℕ → List (List ℕ) → Rows
rows_of connection row level bs = record {
  listed = flags (is_listed row level) bs;
  active_invalid = flags (is_invalid row level) bs;
  fixed = flags (is_fixed_medium connection row level) bs;
}

-- ## Fresh and loaded

unfoldable pub fresh_walk : Walk
fresh_walk = record {
  loaded = false;
  connection = 0;
  blocks = 0;
  rows = no_rows;
  default_number = none;
  settled = false;
  selected = none;
  looks = 0;
  switches = 0;
}

-- what an accepted reading says of the leaf; settled no, selected none, looks 0, switches 0
unfoldable pub loaded_walk : List ℕ → Arguments → Walk
loaded_walk image a = record {
  loaded = true;
  connection = (accepted_answer image a).connection;
  blocks = (accepted_answer image a).blocks;
  rows = rows_of (accepted_answer image a).connection (row_for a) a.level (blocks_for image a);
  default_number = (accepted_answer image a).default_number;
  settled = false;
  selected = none;
  looks = 0;
  switches = 0;
}

-- ## The three steps of a look

-- the last number below n that p takes, or none
unfoldable pub last_below : (ℕ → Bool) → ℕ → ℕ
last_below p zero = none
last_below p (suc n) = pick (p n) n (last_below p n)

-- an entry is up if the byte at its block number is 1
abbrev pub is_up : List ℕ → ℕ → Bool
is_up report k = flag_at report k

-- 1: settled with a block selected, it stays where the type is autosensed once, or it has Active_Invalid, or it is up
unfoldable pub stays : Walk → List ℕ → Bool
stays w report =
    w.settled && not (eqb w.selected none)
    && (is_once (way_of w.connection) || flag_at w.rows.active_invalid w.selected || is_up report w.selected)

-- 2: the candidates are all listed entries, or, once settled, those without Active_Invalid
unfoldable pub is_candidate : List ℕ → List ℕ → Bool → ℕ → Bool
is_candidate listed invalid settled k = flag_at listed k && not (settled && flag_at invalid k)

-- the first in table order, which is from the last block to the first, that is up
unfoldable pub first_up : List ℕ → List ℕ → Bool → List ℕ → ℕ → ℕ
first_up listed invalid settled report blocks = last_below (λ k. is_candidate listed invalid settled k && is_up report k) blocks

unfoldable pub up_in : Walk → List ℕ → ℕ
up_in w report = first_up w.rows.listed w.rows.active_invalid w.settled report w.blocks

-- what a look selects, and whether the walk is then settled
pub record Choice : Type 0 where
  pub settled : Bool
  pub selected : ℕ

-- it is selected and settled becomes yes; with none up, the default is selected, or none, and settled is unchanged
abbrev pub choice : Bool → ℕ → Choice
choice settled selected = record { settled = settled; selected = selected }

-- 1 and 2 where the type is autosensed
unfoldable pub sensed : Walk → List ℕ → Choice
sensed w report =
    pick (stays w report) (choice w.settled w.selected)
    (pick (eqb (up_in w report) none) (choice w.settled w.default_number) (choice true (up_in w report)))

-- under a fixed type the first block in table order that has the fixed medium, or none; no link, default or Active_Invalid
-- plays a part
unfoldable pub fixed_block : Walk → ℕ
fixed_block w = last_below (flag_at w.rows.fixed) w.blocks

-- it is selected and settled becomes yes
unfoldable pub chosen : Walk → List ℕ → Choice
chosen w report = pick (is_fixed (way_of w.connection)) (choice true (fixed_block w)) (sensed w report)

-- 3: looks rise by 1, and switches too if the selection changed; none counts as a selection
abbrev pub most_looks : ℕ
most_looks = 65535

unfoldable pub switched : ℕ → ℕ → ℕ → ℕ
switched switches before after = pick (eqb before after) switches (pick (eqb switches most_looks) switches (switches + 1))

unfoldable pub stepped : Walk → List ℕ → Walk
stepped w report = record {
  loaded = w.loaded;
  connection = w.connection;
  blocks = w.blocks;
  rows = w.rows;
  default_number = w.default_number;
  settled = (chosen w report).settled;
  selected = (chosen w report).selected;
  looks = w.looks + 1;
  switches = switched w.switches w.selected (chosen w report).selected;
}

-- ## Why a call is refused, and what it answers

-- shorter than the block count, or one of those bytes above 1; later bytes are ignored
unfoldable pub bad_report : List ℕ → ℕ → Bool
bad_report report blocks = ltb (length report) blocks || any_below (λ k. ltb 1 (byte_at report k)) blocks

-- from the state before any from the input
unfoldable pub look_causes : Walk → List ℕ → List Cause
look_causes w report =
    (20 ⇒ not w.loaded)
    ∷ (32 ⇒ is_fixed (way_of w.connection) && eqb (fixed_block w) none)
    ∷ (23 ⇒ eqb w.looks most_looks)
    ∷ (19 ⇒ bad_report report w.blocks)
    ∷ []

-- then the reader's numbers, 12 apart
unfoldable pub load_causes : Walk → List ℕ → Arguments → List Cause
load_causes w image a = (21 ⇒ w.loaded) ∷ judge_causes image a

-- with the number n: the next walk, or on a refusal the walk itself
unfoldable pub walked_to : ℕ → Walk → Walk → Walked
walked_to n next w = record { number = n; walk = pick (eqb n 0) next w }

unfoldable pub load_for : Walk → List ℕ → Arguments → Walked
load_for w image a = walked_to (first_met (load_causes w image a)) (loaded_walk image a) w

unfoldable pub look_for : Walk → List ℕ → Walked
look_for w report = walked_to (first_met (look_causes w report)) (stepped w report) w

-- clearing makes it fresh and always succeeds
unfoldable pub clear_for : Walk → Walked
clear_for w = record { number = 0; walk = fresh_walk }

-- what C gets of a call: its number, and the walk behind it
abbrev pub walked_from : Result (Unit {0}) Refusal → Walk → Walked
walked_from answer w = record { number = answer_number answer; walk = w }
