-- What is read gives the leaf's blocks. Assumes nothing.
use Rattle.std.proofs.Common.{refl}
use Rattle.reader.specs.Inside.{answer_from}
use Rattle.maker.proofs.Sheets.{its-reading, read-inside, read-accepted, read-entries, read-end, read-within}
use Rattle.maker.proofs.source.ReadImage.blocks.Goals as goal

pub invariant_of-result : goal.invariant_of-result
unfolding answer_from
invariant_of-result c =
    let s = c.args.self in
    record {
      inside = read-inside s.layout s.first_edition s.chip (its-reading s) c.up_to_leaves_end.ensures.result_value;
      accepted = read-accepted s.layout s.first_edition s.chip (its-reading s) c.up_to_leaves_end.ensures.result_value;
    }

pub returns : goal.returns
unfolding answer_from
returns c =
    let s = c.args.self in
    record {
      entries = read-entries s.layout s.first_edition s.chip (its-reading s) c.up_to_leaves_end.ensures.result_value;
      start = refl;
      end = read-end s.layout s.first_edition s.chip (its-reading s) c.up_to_leaves_end.ensures.result_value;
      within = read-within s.layout s.first_edition s.chip (its-reading s) c.up_to_leaves_end.ensures.result_value;
    }
