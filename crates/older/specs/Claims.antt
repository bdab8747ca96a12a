-- What is claimed of readings and walks. DEMAND 3 is one statement, `OlderReader`.
use Rattle.std.specs.Prelude.{ℕ, ◌+◌, ◌≤◌, ◌<◌, ◌≡◌, List, [], ◌∷◌, ◌++◌, map, reverse, Bool, true, false, ◌&&◌, not, ◌⊎◌, eqb, ltb}
use Rattle.std.specs.Prelude.{length, get_or}
use Rattle.rom.specs.Geometry.{none, wrong_length, version_at}
use Rattle.rom.specs.Bytes.{pick, one, byte_at, word_at, is_in, Bytes, keep}
use Rattle.rom.specs.Refusal.{first_met}
use Rattle.format.specs.Chips.{newest_level, the_first_edition, the_later_edition, first_codes, later_codes, taken_as}
use Rattle.format.specs.Block.{kind_of, is_known, is_listed, is_reset, is_power, is_skipped, is_default}
use Rattle.image.specs.declared.Arguments.{Arguments}
use Rattle.image.specs.Image.{is_first_version}
use Rattle.image.specs.Arguments.{row_for, leaf_for, start_for, at_level, in_edition}
use Rattle.leaf.specs.Leaf.{PlacedBlock, placed, table, count_of, first_from, leaf_causes}
use Rattle.reader.specs.declared.Answer.{Answer}
use Rattle.reader.specs.Reading.{blocks_for, table_for, judge_causes, accepted_answer, judge_answer, read_answer, read_kinds, read_offsets}
use Rattle.reader.specs.Reading.{view_for}
use Rattle.walk.specs.declared.Walk.{Walk}
use Rattle.walk.specs.declared.Walked.{Walked}
use Rattle.walk.specs.declared.Way.{Way}
use Rattle.walk.specs.declared.Way.TheVariants.{EveryLook, Once, Fixed}
use Rattle.walk.specs.Walk.{way_of, is_fixed, row_length, no_flags, block_is, flag_at, is_invalid, is_fixed_medium, is_up}
use Rattle.walk.specs.Walk.{fresh_walk, loaded_walk}
use Rattle.walk.specs.Walk.{first_up, fixed_block, look_for}
use Rattle.older.specs.Levels.{is_kept, only_newest, is_removed, removed_block}
use Rattle.older.specs.Calls.{Call, look, Each, Down, QuietAt, RefusedAt, seen, after, run}
use Rattle.older.specs.Written.{Arrays, Room, answer_of, TableEntry, as_entry, table_in, removed, kept, numbers_of}
use Rattle.older.specs.FromFresh.{FromFresh}
use Rattle.older.specs.Alike.{Kept, StandAlike}

-- ## Demand 3: the older reader and the older walk against the newest (document 01, 'The walk'; document 02, request 5)

-- the older answer and table against the newest
pub record OlderReads (image : List ℕ) (a : Arguments) (older : ℕ) (new old : Answer) (new_table old_table : List TableEntry) : Type 0 where
  pub accepts : old.number ≡ 0
  pub connection : old.connection ≡ new.connection
  pub control : old.control ≡ new.control
  pub address : old.address ≡ new.address
  pub blocks : old.blocks ≡ new.blocks
  pub «default» : old.default_number ≡ pick (removed_block image a older new.default_number) none new.default_number
  pub resets : old.resets ≡ pick (ltb 5 older) new.resets 0
  pub listed : old.listed + length (keep (removed older) new_table) ≡ new.listed
  pub skipped : old.skipped ≡ new.skipped + count_of (only_newest (row_for a) older newest_level) (blocks_for image a)
  pub power : old.power ≡ 0
  pub table : old_table ≡ keep (kept older) new_table

-- as `read` answers and writes them, each into arrays no shorter than the block count
abbrev pub ReadsAgree : List ℕ → Arguments → ℕ → Type 0
ReadsAgree image a older =
    (n o : Arrays) → Room image a n → Room image a o →
    OlderReads image a older
    (answer_of image (at_level a newest_level) n) (answer_of image (at_level a older) o)
    (table_in image (at_level a newest_level) n) (table_in image (at_level a older) o)

-- the conditions where the type is autosensed: the default is no removed entry, and at no look that the newest walk accepts one
-- is up
abbrev pub NoneRemoved : List ℕ → Arguments → ℕ → List Call → Type 0
NoneRemoved image a older calls =
    (removed_block image a older (judge_answer image (at_level a newest_level)).default_number ≡ false)
    × Down (removed_block image a older) image (at_level a newest_level) fresh_walk calls

-- what the newest walk selects under a fixed type, or none
abbrev pub newest_choice : List ℕ → Arguments → ℕ
newest_choice image a = fixed_block (loaded_walk image (at_level a newest_level))

-- the condition where it is fixed: the newest choice is an entry that the older level lists, or there is none
abbrev pub ChoiceListed : List ℕ → Arguments → ℕ → Type 0
ChoiceListed image a older =
    (newest_choice image a ≡ none) ⊎ (block_is (is_listed (row_for a) older) (blocks_for image a) (newest_choice image a) ≡ true)

-- by the way to walk
abbrev pub Comparable : Way → List ℕ → Arguments → ℕ → List Call → Type 0
Comparable EveryLook image a older calls = NoneRemoved image a older calls
Comparable Once image a older calls = NoneRemoved image a older calls
Comparable Fixed image a older calls = ChoiceListed image a older

-- the way to walk under the image's connection type
abbrev pub way_for : List ℕ → Arguments → Way
way_for image a = way_of (judge_answer image (at_level a newest_level)).connection

-- for every list of calls: under the conditions of the way to walk the same is seen after each call
abbrev pub WalksAgree : List ℕ → Arguments → ℕ → Type 0
WalksAgree image a older =
    (calls : List Call) → Comparable (way_for image a) image a older calls →
    run image (at_level a newest_level) fresh_walk calls ≡ run image (at_level a older) fresh_walk calls

-- for every image, which is bytes, and arguments that the newest reader accepts, 12 apart, and every older level
abbrev pub OlderReader : Type 0
OlderReader =
    (image : List ℕ) (a : Arguments) (older : ℕ) → Bytes image → older < newest_level →
    first_met (judge_causes image (at_level a newest_level)) ≡ 0 →
    ReadsAgree image a older × WalksAgree image a older

-- an image that the newest reader refuses with 31 is read at every level below, with the answer and the table that the level
-- defines (document 02, request 3)
abbrev pub ReadBelow : Type 0
ReadBelow =
    (image : List ℕ) (a : Arguments) (older : ℕ) → older < newest_level →
    first_met (judge_causes image (at_level a newest_level)) ≡ 31 →
    (judge_answer image (at_level a older) ≡ accepted_answer image (at_level a older))
    × ((o : Arrays) → Room image a o →
    (answer_of image (at_level a older) o ≡ accepted_answer image (at_level a older))
    × (table_in image (at_level a older) o ≡ map (as_entry (row_for a)) (table_for image (at_level a older))))

-- under a fixed type without a choice every look at a loaded walk is refused with 32, at both levels
abbrev pub NoChoice : Type 0
NoChoice =
    (image : List ℕ) (a : Arguments) (older : ℕ) → Bytes image → older < newest_level →
    first_met (judge_causes image (at_level a newest_level)) ≡ 0 →
    is_fixed (way_for image a) ≡ true → newest_choice image a ≡ none →
    (calls : List Call) →
    Each (RefusedAt 32) image (at_level a newest_level) fresh_walk calls × Each (RefusedAt 32) image (at_level a older) fresh_walk calls

-- what is seen of loaded walks tells all that is compared of them
abbrev pub SeenTells : Type 0
SeenTells = (v w : Walk) → v.loaded ≡ true → w.loaded ≡ true → seen v ≡ seen w →
    (v.settled ≡ w.settled) × (v.selected ≡ w.selected) × (v.looks ≡ w.looks) × (v.switches ≡ w.switches)

-- and what is compared after a call tells its number and what is seen of the walk
abbrev pub AfterTells : Type 0
AfterTells = (p q : Walked) → after p ≡ after q → (p.number ≡ q.number) × (seen p.walk ≡ seen q.walk)

-- ## What it rests on: a leaf at an older level. `bs` are its blocks as they stand, `row` is the chip's

-- what the newest reader accepts an older one accepts
abbrev pub OlderAccepts : Type 0
OlderAccepts = (first : Bool) (row older newest : ℕ) (bs : List (List ℕ)) → older ≤ newest → first_met (leaf_causes first row newest bs) ≡ 0
    → first_met (leaf_causes first row older bs) ≡ 0

-- the older table is the newest one without the removed entries, in the same order
abbrev pub OlderTable : Type 0
OlderTable = (row older newest : ℕ) (bs : List PlacedBlock) → older ≤ newest → table row older bs ≡ keep (is_kept row older)
    (table row newest bs)

-- the older counts: the same resets if it knows type 5, else 0; listed lower by the removed entries; skipped higher by the
-- blocks of types that only the newest knows; the same power if it knows type 6, else 0
abbrev pub OlderCounts : Type 0
OlderCounts = (row older newest : ℕ) (bs : List (List ℕ)) → older ≤ newest →
    (count_of (is_reset row older) bs ≡ pick (ltb 5 older) (count_of (is_reset row newest) bs) 0)
    × (count_of (is_listed row older) bs + count_of (is_removed row older newest) bs ≡ count_of (is_listed row newest) bs)
    × (count_of (is_skipped row newest) bs + count_of (only_newest row older newest) bs ≡ count_of (is_skipped row older) bs)
    × (count_of (is_power row older) bs ≡ pick (ltb 6 older) (count_of (is_power row newest) bs) 0)

-- the older default number is the newest one's, or none if that is a removed entry's; at most one block is a default, as in a
-- leaf that the newest accepts
abbrev pub OlderDefault : Type 0
OlderDefault = (row older newest : ℕ) (bs : List (List ℕ)) → older ≤ newest → count_of (is_default row newest) bs ≤ 1 →
    first_from (is_default row older) 0 bs
    ≡ pick (is_known older (kind_of row (get_or bs (first_from (is_default row newest) 0 bs) []))) (first_from (is_default row newest) 0 bs)
    none

-- ## What it rests on: one look at two walks that stand alike

-- with no removed block up or the default, or under a fixed type the choice, both answer with the same number and stand alike
-- again
abbrev pub OneLook : Type 0
OneLook = (removed : ℕ → Bool) (new old : Walk) (report : List ℕ) → removed none ≡ false →
    StandAlike removed new old → Kept (way_of new.connection) removed new old →
    QuietAt (way_of new.connection) removed new (look report) →
    ((look_for old report).number ≡ (look_for new report).number) × StandAlike removed (look_for new report).walk (look_for old report).walk

-- ## Rows (demand 2)

-- a leaf of bytes has at most 255 blocks, so each has its flag in rows of 256
abbrev pub FlagForEach : Type 0
FlagForEach = (image : List ℕ) (a : Arguments) → Bytes image →
    ((loaded_walk image a).blocks ≤ 255)
    × (length (loaded_walk image a).rows.listed ≡ row_length) × (length (loaded_walk image a).rows.active_invalid ≡ row_length)
    × (length (loaded_walk image a).rows.fixed ≡ row_length)

-- a flag is 1 exactly if that block is listed, or is and has Active_Invalid, or is and has the fixed medium
abbrev pub RowsSay : Type 0
RowsSay = (image : List ℕ) (a : Arguments) (k : ℕ) →
    (flag_at (loaded_walk image a).rows.listed k ≡ block_is (is_listed (row_for a) a.level) (blocks_for image a) k)
    × (flag_at (loaded_walk image a).rows.active_invalid k ≡ block_is (is_invalid (row_for a) a.level) (blocks_for image a) k)
    × (flag_at (loaded_walk image a).rows.fixed k
    ≡ block_is (is_fixed_medium (loaded_walk image a).connection (row_for a) a.level) (blocks_for image a) k)

-- the row of the fixed medium is all zeros where the type is not fixed
abbrev pub ZerosElsewhere : Type 0
ZerosElsewhere = (image : List ℕ) (a : Arguments) → Bytes image → is_fixed (way_of (loaded_walk image a).connection) ≡ false
    → (loaded_walk image a).rows.fixed ≡ no_flags

-- ## Table order

-- the numbers of the blocks that p takes, where the first of these blocks has number k
unfoldable pub numbers_from : (List ℕ → Bool) → ℕ → List (List ℕ) → List ℕ
numbers_from p k [] = []
numbers_from p k (s ∷ bs) = pick (p s) (k ∷ numbers_from p (k + 1) bs) (numbers_from p (k + 1) bs)

-- the block numbers of the table's entries, in table order
unfoldable pub entry_numbers : List ℕ → Arguments → List ℕ
entry_numbers image a = reverse (numbers_from (is_listed (row_for a) a.level) 0 (blocks_for image a))

-- the first that p takes, or none
unfoldable pub first_of : (ℕ → Bool) → List ℕ → ℕ
first_of p [] = none
first_of p (k ∷ ks) = pick (p k) k (first_of p ks)

abbrev nowhere : PlacedBlock
nowhere = record { start = 0; rest = [] }

-- they are the table's entries
abbrev pub TableNumbers : Type 0
TableNumbers = (image : List ℕ) (a : Arguments) →
    table_for image a ≡ map (λ k. get_or (placed (row_for a) (start_for image a) (blocks_for image a)) k nowhere) (entry_numbers image a)

-- a look finds the first of them, in table order, that is up; once settled, of those without Active_Invalid
abbrev pub FirstInOrder : Type 0
FirstInOrder = (image : List ℕ) (a : Arguments) (settled : Bool) (report : List ℕ) →
    let w = loaded_walk image a in
    first_up w.rows.listed w.rows.active_invalid settled report w.blocks
    ≡ first_of (λ k. not (settled && block_is (is_invalid (row_for a) a.level) (blocks_for image a) k) && is_up report k)
    (entry_numbers image a)

-- under a fixed type it is the first of them that has the fixed medium
abbrev pub FixedInOrder : Type 0
FixedInOrder = (image : List ℕ) (a : Arguments) →
    fixed_block (loaded_walk image a)
    ≡ first_of (λ k. block_is (is_fixed_medium (loaded_walk image a).connection (row_for a) a.level) (blocks_for image a) k)
    (entry_numbers image a)

-- the blocks that demand 3 calls removed are those of the newest table's removed entries
abbrev pub RemovedNumbers : Type 0
RemovedNumbers =
    (image : List ℕ) (a : Arguments) (older : ℕ) → first_met (judge_causes image (at_level a newest_level)) ≡ 0 →
    (n : Arrays) → Room image a n → (k : ℕ) →
    removed_block image a older k
    ≡ is_in k (numbers_of (removed older) (table_in image (at_level a newest_level) n) (entry_numbers image (at_level a newest_level)))

-- ## Counts

-- the switches of walks that calls reach are no more than their looks, so that an accepted look counts exactly
abbrev pub CountsExactly : Type 0
CountsExactly = (w : Walk) → FromFresh w →
    (w.switches ≤ w.looks) × (w.looks ≤ 65535)
    × ((report : List ℕ) → (look_for w report).number ≡ 0 →
    let next = (look_for w report).walk in
    (next.looks ≡ w.looks + 1) × (next.switches ≡ w.switches + one (not (eqb w.selected next.selected))))

-- and they stand on no block or on an entry of their table
abbrev pub StandsOnEntry : Type 0
StandsOnEntry = (w : Walk) → FromFresh w → (w.selected ≡ none) ⊎ (flag_at w.rows.listed w.selected ≡ true)

-- and under a fixed type they have switched once at most
abbrev pub FixedSwitches : Type 0
FixedSwitches = (w : Walk) → FromFresh w → is_fixed (way_of w.connection) ≡ true → w.switches ≤ 1

-- the fixed types that name no medium (document 02, request 5)
abbrev pub nameless : List ℕ
nameless = 0x0010 ∷ 0x0211 ∷ []

-- and under one of these every look at them, once loaded, is refused with 32
abbrev pub AlwaysLacking : Type 0
AlwaysLacking = (w : Walk) → FromFresh w → w.loaded ≡ true → is_in w.connection nameless ≡ true → (report : List ℕ)
    → (look_for w report).number ≡ 32

-- ## Versions and editions (document 02, request 12)

-- versions 3 and 4 are read and walked alike in both editions: answer, table, view, and what is seen over every list of calls
abbrev pub LaterAlike : Type 0
LaterAlike =
    (image : List ℕ) (a : Arguments) (edition other : Bool) → is_first_version image ≡ false →
    let b = in_edition a edition in
    let c = in_edition a other in
    (judge_answer image b ≡ judge_answer image c)
    × ((kinds offsets : List ℕ) →
    (read_answer image b (length kinds) (length offsets) ≡ read_answer image c (length kinds) (length offsets))
    × (read_kinds image b kinds offsets ≡ read_kinds image c kinds offsets)
    × (read_offsets image b kinds offsets ≡ read_offsets image c kinds offsets))
    × ((entry : ℕ) → view_for image b entry ≡ view_for image c entry)
    × ((w : Walk) (calls : List Call) → run image b w calls ≡ run image c w calls)

-- the connection type of the leaf that the arguments name, and the number of a reading in an edition
abbrev pub code_for : List ℕ → Arguments → ℕ
code_for image a = word_at image (leaf_for image a)

abbrev pub number_in : Bool → List ℕ → Arguments → ℕ
number_in edition image a = (judge_answer image (in_edition a edition)).number

-- in version 1 each edition refuses the codes of the other, with 11 where the other reads the image, so that no image with one of
-- the four codes is read in both; one with another code is answered alike
abbrev pub EachEdition : Type 0
EachEdition =
    (image : List ℕ) (a : Arguments) → is_first_version image ≡ true →
    (is_in (code_for image a) first_codes ≡ true → (number_in the_later_edition image a ≡ 0 → ⊥)
    × (number_in the_first_edition image a ≡ 0 → number_in the_later_edition image a ≡ 11))
    × (is_in (code_for image a) later_codes ≡ true → (number_in the_first_edition image a ≡ 0 → ⊥)
    × (number_in the_later_edition image a ≡ 0 → number_in the_first_edition image a ≡ 11))
    × (is_in (code_for image a) (first_codes ++ later_codes) ≡ false
    → judge_answer image (in_edition a the_first_edition) ≡ judge_answer image (in_edition a the_later_edition))

-- the versions that a programming leaves when it is interrupted (document 02, request 8) are refused with 2
abbrev pub marks : List ℕ
marks = 0 ∷ 255 ∷ []

abbrev pub MarksRefused : Type 0
MarksRefused =
    (image : List ℕ) (a : Arguments) → wrong_length a.layout.size (length image) ≡ false → is_in (byte_at image version_at) marks ≡ true
    → (judge_answer image a).number ≡ 2

-- two cards that are read with the same blocks, for the same chip and level, of which the second has the type that the first one's
-- is taken as: so one of 0x0200 in edition 1.00 and one of 0x0204 in 1.01
pub record SameButCode (image other : List ℕ) (a b : Arguments) : Type 0 where
  pub accepts : (first_met (judge_causes image a) ≡ 0) × (first_met (judge_causes other b) ≡ 0)
  pub chip : row_for b ≡ row_for a
  pub level : b.level ≡ a.level
  pub blocks : blocks_for other b ≡ blocks_for image a
  pub connection : (accepted_answer other b).connection ≡ taken_as (accepted_answer image a).connection

-- they are walked alike over every list of calls
abbrev pub WalkedAsTaken : Type 0
WalkedAsTaken =
    (image other : List ℕ) (a b : Arguments) → SameButCode image other a b →
    (calls : List Call) → run image a fresh_walk calls ≡ run other b fresh_walk calls
