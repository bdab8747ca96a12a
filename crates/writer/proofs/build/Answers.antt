-- Frame, ID CRC, leaf, SROM CRC, and what the output has behind the board. Every step keeps the length. Assumes nothing.
use Rattle.std.proofs.Common.{ℕ, ◌-◌, ◌≡◌, ◌∙◌, refl, ap, List, length, length-drop, arith}
use Rattle.std.proofs.Math.ListN.{length-take}
use Rattle.rom.proofs.Layouts.{geometry}
use Rattle.writer.specs.Inside.{zeros}
use Rattle.writer.proofs.Sheets.{leaf-roomy}
use Rattle.writer.proofs.Images.{zeros-length, right-image, output-length, built-is}
use borrow.Rule.Slice.PartMut.{same_len_mid}
use Rattle.writer.proofs.build.Goals as goal

kept : {a b n : ℕ} {image : List ℕ} → a ≡ b → b ≡ length image → image ≡ zeros n → a ≡ n
kept e f z = e ∙ f ∙ ap length z ∙ zeros-length _

pub identify-requires : goal.identify-requires
identify-requires c = right-image c.requires.0 (kept c.put_frame.auto.image refl c.requires.1)

pub slice_bounds-put_leaf-count : goal.slice_bounds-put_leaf-count
slice_bounds-put_leaf-count c =
    let g = geometry c.args.layout in
    omega (arith, kept c.identify.auto.image c.put_frame.auto.image c.requires.1)

pub slice_bounds-put_leaf-start : goal.slice_bounds-put_leaf-start
slice_bounds-put_leaf-start = slice_bounds-put_leaf-count

pub put_leaf-requires : goal.put_leaf-requires
put_leaf-requires c =
    let g = geometry c.args.layout in
    leaf-roomy c.requires.0 (simp (length-take, length-drop)
    (omega (arith, kept c.identify.auto.image c.put_frame.auto.image c.requires.1)))

pub seal-requires : goal.seal-requires
seal-requires c =
    right-image c.requires.0
    (same_len_mid 30 (length c.identify.new.image - 30) c.identify.new.image c.put_leaf.new.room c.put_leaf.auto.room
    ∙ kept c.identify.auto.image c.put_frame.auto.image c.requires.1)

pub slice_bounds-put_bytes-count : goal.slice_bounds-put_bytes-count
slice_bounds-put_bytes-count c =
    let g = geometry c.args.layout in
    omega (arith, output-length c.requires.0, c.board_length-end.ensures)

pub slice_bounds-put_bytes-start : goal.slice_bounds-put_bytes-start
slice_bounds-put_bytes-start = slice_bounds-put_bytes-count

pub returns : goal.returns
returns c =
    built-is c.args.sheet.counted c.requires.0 c.put_frame.ensures c.identify.ensures _
    (ap (λ (k : ℕ). k - 30) (kept c.identify.auto.image c.put_frame.auto.image c.requires.1))
    c.put_leaf.ensures c.seal.ensures c.board_length-end.ensures c.put_bytes.ensures
