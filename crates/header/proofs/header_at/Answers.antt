-- Each field is read where the definition has it. Assumes nothing.
use Rattle.std.proofs.Common.{sym}
use Rattle.header.proofs.Headers.{fields_read}
use Rattle.header.proofs.header_at.Goals as goal

pub returns : goal.returns
returns c =
    let a = c.args in
    let length = c.header_length in
    rw c.from.ensures
    (fields_read a.image.now a.arguments a.row a.leaf length.result c.word_at.result
    c.control_byte.result c.base_address.result c.byte_at.result
    c.requires.0 c.requires.1 length.ensures.0 c.word_at.ensures
    c.control_byte.ensures c.base_address.ensures.0 c.byte_at.ensures)
