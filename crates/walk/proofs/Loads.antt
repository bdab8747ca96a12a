-- A load by what the reader answers: a leaf has at most 255 blocks. Assumes nothing.
use Prim.Native.Nat.{ℕ, ◌<◌}
use mathlib.Core.List.{List}
use mathlib.Core.Path.{◌≡◌, sym}
use mathlib.Core.Bool.{true, false}
use borrow.Author.Tests.{ne_eqb}
use Rattle.rom.specs.Geometry.{none}
use Rattle.rom.specs.Bytes.{pick, Bytes}
use Rattle.rom.specs.Refusal.{first_met}
use Rattle.image.specs.declared.Arguments.{Arguments}
use Rattle.image.specs.Image.{block_count}
use Rattle.image.specs.Arguments.{count_for}
use Rattle.leaf.specs.Leaf.{cut}
use Rattle.reader.specs.Reading.{Judged}
use Rattle.reader.specs.Reading.{judge_causes, accepted_reading, judged_reading, accepted_answer}
use Rattle.reader.proofs.Readings.{accepted-judged, rest_of, reading-number}
use Rattle.walk.specs.declared.Walk.{Walk}
use Rattle.walk.specs.declared.Rows.{Rows}
use Rattle.walk.specs.Walk.{rows_of, loaded_walk, load_causes, walked_to, load_for}

-- ## At most 255 blocks

-- a block count is a byte
pub few-blocks : (image : List ℕ) (a : Arguments) → Bytes image → count_for image a < 256
unfolding block_count
few-blocks image a bytes = bytes _

-- ## What a load answers

module _ (w : Walk) (image : List ℕ) (a : Arguments) where
  pub load-loaded : w.loaded ≡ true → record { number = 21; walk = w } ≡ load_for w image a
  unfolding load_for load_causes first_met walked_to pick
  load-loaded e = rw e

  module _ (e : w.loaded ≡ false) (r : Judged) (er : r ≡ judged_reading image a) where
    judged-number : r.answer.number ≡ first_met (judge_causes image a)
    unfolding judged_reading
    judged-number = reading-number (first_met (judge_causes image a)) image a r er

    load-number : first_met (load_causes w image a) ≡ r.answer.number
    unfolding load_causes first_met pick
    load-number = rw e (sym judged-number)

    pub load-refused : (r.answer.number ≡ 0 → ⊥) → record { number = r.answer.number; walk = w } ≡ load_for w image a
    unfolding load_for walked_to pick
    load-refused n = rw (load-number, ne_eqb r.answer.number 0 n)

    pub load-done : (z : r.answer.number ≡ 0) (rest : List ℕ) → rest ≡ rest_of image a r → (rows : Rows)
        → rows ≡ rows_of r.answer.connection r.row a.level (cut r.row r.answer.blocks rest)
        → record {
          number = r.answer.number;
          walk = record {
            loaded = true;
            connection = r.answer.connection;
            blocks = r.answer.blocks;
            rows = rows;
            default_number = r.answer.default_number;
            settled = false;
            selected = none;
            looks = 0;
            switches = 0;
          };
        } ≡ load_for w image a
    unfolding load_for walked_to pick loaded_walk accepted_reading accepted_answer
    load-done z rest q rows f =
        let c = accepted-judged image a r er z in
        rw (load-number, z, f, q, c.known)
