-- Three stores, and a whole copy into the part of its length. Assumes nothing.
use Rattle.std.proofs.Common.{ℕ, List, ap, ◌∙◌, ◌<◌, rules}
use Rattle.rom.specs.Store.{put}
use Rattle.rom.proofs.Put.{put-part}
use Rattle.maker.proofs.Filling.{three-stores}
use Rattle.maker.proofs.parts.put_entry.Goals as goal

pub returns : goal.returns
returns c =
    let low : c.args.entry.kind < 65536 = search rules in
    put-part _ _ _ _ c.copy_from_slice.ensures.after
    ∙ ap (λ (l : List ℕ). put l c.args.body_at c.args.entry.body.now)
    (three-stores _ _ _ _ _ c.requires.kind_at_in_bounds.0 c.requires.kind_at_in_bounds.1 low c.to_le_bytes.ensures)
