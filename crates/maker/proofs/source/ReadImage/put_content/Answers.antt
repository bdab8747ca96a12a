-- The head's two halves, then the parts. Assumes nothing.
use Rattle.maker.proofs.Sheets.{its-reading}
use Rattle.maker.proofs.Laying.{head-room, fields-room, parts-room, content-put}
use Rattle.maker.proofs.source.ReadImage.put_content.Goals as goal

pub put_front-requires : goal.put_front-requires
put_front-requires c =
    let s = c.args.self in head-room s.layout s.first_edition s.chip (its-reading s) _ c.requires

pub put_fields-requires : goal.put_fields-requires
put_fields-requires c =
    let s = c.args.self in fields-room s.layout s.first_edition s.chip (its-reading s) _ c.requires c.put_front.ensures

pub put_parts-requires : goal.put_parts-requires
put_parts-requires c =
    let s = c.args.self in
    parts-room s.layout s.first_edition s.chip (its-reading s) _ c.requires c.put_front.ensures c.put_fields.ensures
    c.blocks-2.ensures.entries

pub returns : goal.returns
returns c =
    let s = c.args.self in
    content-put s.layout s.first_edition s.chip (its-reading s) _ c.requires c.put_front.ensures c.put_fields.ensures
    c.blocks-2.ensures.entries
    c.put_parts.ensures
