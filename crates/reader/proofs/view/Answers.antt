-- The part lies in the image. Assumes nothing.
use Rattle.std.proofs.Common.{arith}
use Rattle.reader.proofs.Readings.{part-inside, part_bytes}
use Rattle.reader.proofs.view.Goals as goal

pub overflow_add-result : goal.overflow_add-result
overflow_add-result c =
    let a = c.args in
    omega (arith, part-inside a.image.now a.arguments a.entry _ c.view_part-part.ensures)

pub slice_bounds-result-end : goal.slice_bounds-result-end
slice_bounds-result-end c = let a = c.args in part-inside a.image.now a.arguments a.entry _ c.view_part-part.ensures

pub returns : goal.returns
returns c =
    let a = c.args in
    record {
      result_value = part_bytes a.image.now a.arguments a.entry _ c.view_part-part.ensures;
      ref_ptr_value = rw c.view_part-part.ensures;
    }
