-- Three puts, one behind the other. Assumes nothing.
use Rattle.std.proofs.Common.{sym, arith}
use lib.Seq.{length-take-le}
use Rattle.maker.proofs.Sheets.{its-reading, image-long, enough, front-put}
use Rattle.maker.proofs.source.ReadImage.put_front.Goals as goal

pub slice_bounds-put_bytes-end : goal.slice_bounds-put_bytes-end
slice_bounds-put_bytes-end c =
    let s = c.args.self in
    let e = enough s.layout s.bytes.now (image-long s.layout s.first_edition s.chip (its-reading s)) in
    sym (length-take-le 16 s.bytes.now (omega (arith, e)))

pub slice_bounds-put_bytes-end-2 : goal.slice_bounds-put_bytes-end-2
slice_bounds-put_bytes-end-2 c =
    let s = c.args.self in
    let e = enough s.layout s.bytes.now (image-long s.layout s.first_edition s.chip (its-reading s)) in omega (arith, e)

pub slice_bounds-put_bytes-end-3 : goal.slice_bounds-put_bytes-end-3
slice_bounds-put_bytes-end-3 c =
    let s = c.args.self in
    let e = enough s.layout s.bytes.now (image-long s.layout s.first_edition s.chip (its-reading s)) in omega (arith, e)

pub returns : goal.returns
returns c =
    let s = c.args.self in
    front-put s.bytes.now (enough s.layout s.bytes.now (image-long s.layout s.first_edition s.chip (its-reading s))) _ c.requires
    c.put_bytes.ensures c.put_bytes-2.ensures c.put_bytes-3.ensures
