-- What the contracts of inner functions cite.
use Rattle.std.specs.Prelude.{ℕ, ◌-◌, List, set}
use Rattle.rom.specs.Refusal.{first_met}
use Rattle.block.specs.Answer.{Verdict}
use Rattle.block.specs.Answer.{Listed, Reset, Power, Unknown, Refused}
use Rattle.image.specs.declared.Arguments.{Arguments}
use Rattle.header.specs.Header.{HeaderAnswer}
use Rattle.leaf.specs.Tally.{TallyAnswer}
use Rattle.reader.specs.declared.Answer.{Answer}
use Rattle.reader.specs.Reading.{Judged, read_causes, reading_with}

-- the answer that an accepted header and the tally of its leaf make
unfoldable pub answer_from : HeaderAnswer → TallyAnswer → Answer
answer_from h t = record {
  number = 0;
  connection = h.connection;
  control = h.control;
  address = h.address;
  blocks = h.blocks;
  listed = t.listed;
  resets = t.resets;
  skipped = t.skipped;
  power = t.power;
  default_number = t.default_number;
}

-- a reading into arrays of these lengths
unfoldable pub reading_for : List ℕ → Arguments → ℕ → ℕ → Judged
reading_for image a kinds offsets = reading_with (first_met (read_causes image a kinds offsets)) image a

-- the store that one block makes before place `free`, if it is listed
abbrev pub stored : ℕ → Verdict → ℕ → List ℕ → List ℕ
stored v (Listed m) free a = set a (free - 1) v
stored v (Reset size) free a = a
stored v (Power size mode) free a = a
stored v (Unknown size) free a = a
stored v (Refused n) free a = a
