-- What is read of a controller's leaf with a chip, a controller and a level (document 01, 'Levels and the table', 'Why a call
-- is refused'; document 02, request 3).
use Rattle.std.specs.Prelude.{ℕ, List, ◌∷◌, ◌++◌, ◌||◌, eqb, ltb, length, take, drop}
use Rattle.rom.specs.Bytes.{pick, word_at}
use Rattle.rom.specs.Refusal.{Cause, ◌⇒◌, first_met}
use Rattle.image.specs.declared.Arguments.{Arguments}
use Rattle.image.specs.Image.{is_first_version, address_of, control_byte, up_to_leaves_end}
use Rattle.image.specs.Arguments.{row_for, leaf_for, start_for, count_for, header_causes}
use Rattle.format.specs.Block.{is_listed, is_reset, is_power, is_skipped, is_default}
use Rattle.leaf.specs.Leaf.{PlacedBlock, cut, count_of, first_from, leaf_causes, kind_at, start_at, table_of}
use Rattle.reader.specs.declared.Answer.{Answer}
use Rattle.reader.specs.declared.Part.{Part}
use Rattle.reader.specs.Table.{tabled, no_part, entry_part}

-- ## The leaf that the arguments name

-- its blocks
abbrev pub blocks_for : List ℕ → Arguments → List (List ℕ)
blocks_for image a = cut (row_for a) (count_for image a) (up_to_leaves_end a.layout image (start_for image a))

-- its media table
abbrev pub table_for : List ℕ → Arguments → List PlacedBlock
table_for image a = table_of (row_for a) a.level (count_for image a) (start_for image a)
    (up_to_leaves_end a.layout image (start_for image a))

-- ## Why a reading is refused

-- 13 to 17, the blocks one after another, 18 and 31
unfoldable pub leaf_causes_for : List ℕ → Arguments → List Cause
leaf_causes_for image a = leaf_causes (is_first_version image) (row_for a) a.level (blocks_for image a)

-- the reader's numbers, 12 apart
unfoldable pub judge_causes : List ℕ → Arguments → List Cause
judge_causes image a = header_causes image a ++ leaf_causes_for image a

-- the reader's numbers, for lent arrays of these lengths
unfoldable pub read_causes : List ℕ → Arguments → ℕ → ℕ → List Cause
read_causes image a kinds offsets =
    header_causes image a ++ (12 ⇒ ltb kinds (count_for image a) || ltb offsets (count_for image a)) ∷ leaf_causes_for image a

-- ## What is answered

-- a refusal's other fields are 0
unfoldable pub refused_answer : ℕ → Answer
refused_answer n =
    record {
      number = n;
      connection = 0;
      control = 0;
      address = 0;
      blocks = 0;
      listed = 0;
      resets = 0;
      skipped = 0;
      power = 0;
      default_number = 0;
    }

unfoldable pub accepted_answer : List ℕ → Arguments → Answer
accepted_answer image a = record {
  number = 0;
  connection = word_at image (leaf_for image a);
  control = control_byte image (row_for a) (leaf_for image a);
  address = address_of image a.controller;
  blocks = count_for image a;
  listed = count_of (is_listed (row_for a) a.level) (blocks_for image a);
  resets = count_of (is_reset (row_for a) a.level) (blocks_for image a);
  skipped = count_of (is_skipped (row_for a) a.level) (blocks_for image a);
  power = count_of (is_power (row_for a) a.level) (blocks_for image a);
  default_number = first_from (is_default (row_for a) a.level) 0 (blocks_for image a);
}

unfoldable pub answer_for : ℕ → List ℕ → Arguments → Answer
answer_for n image a = pick (eqb n 0) (accepted_answer image a) (refused_answer n)

-- of judging, without arrays
unfoldable pub judge_answer : List ℕ → Arguments → Answer
judge_answer image a = answer_for (first_met (judge_causes image a)) image a

-- of reading into arrays of these lengths
unfoldable pub read_answer : List ℕ → Arguments → ℕ → ℕ → Answer
read_answer image a kinds offsets = answer_for (first_met (read_causes image a kinds offsets)) image a

-- an array after the reading: the table's numbers at its front, or unchanged on a refusal
unfoldable pub read_into : (PlacedBlock → ℕ) → ℕ → List ℕ → Arguments → List ℕ → List ℕ
read_into f n image a array = pick (eqb n 0) (tabled f (table_for image a) array) array

unfoldable pub read_kinds : List ℕ → Arguments → List ℕ → List ℕ → List ℕ
read_kinds image a kinds offsets = read_into (kind_at (row_for a)) (first_met (read_causes image a (length kinds) (length offsets))) image a
    kinds

unfoldable pub read_offsets : List ℕ → Arguments → List ℕ → List ℕ → List ℕ
read_offsets image a kinds offsets = read_into start_at (first_met (read_causes image a (length kinds) (length offsets))) image a offsets

-- ## The block view

-- the part of an entry's block, the empty one where the reading is refused, 12 apart, or there is no such entry
unfoldable pub part_for : List ℕ → Arguments → ℕ → Part
part_for image a entry = pick (eqb (first_met (judge_causes image a)) 0) (entry_part (row_for a) (table_for image a) entry) no_part

abbrev pub bytes_of : List ℕ → Part → List ℕ
bytes_of image p = take p.length (drop p.start image)

unfoldable pub view_for : List ℕ → Arguments → ℕ → List ℕ
view_for image a entry = bytes_of image (part_for image a entry)

-- ## What the code keeps of a reading: the chip's row and where the blocks start, beside the answer

pub record Judged : Type 0 where
  pub answer : Answer
  pub row : ℕ
  pub start : ℕ

unfoldable pub refused_reading : ℕ → Judged
refused_reading n = record { answer = refused_answer n; row = 0; start = 0 }

unfoldable pub accepted_reading : List ℕ → Arguments → Judged
accepted_reading image a = record { answer = accepted_answer image a; row = row_for a; start = start_for image a }

-- with the number n
unfoldable pub reading_with : ℕ → List ℕ → Arguments → Judged
reading_with n image a = pick (eqb n 0) (accepted_reading image a) (refused_reading n)

-- without arrays
unfoldable pub judged_reading : List ℕ → Arguments → Judged
judged_reading image a = reading_with (first_met (judge_causes image a)) image a
