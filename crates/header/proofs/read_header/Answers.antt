-- The first refusal of the image, of the arguments or of the leaf, or the header. Assumes nothing.
use Rattle.std.proofs.Common.{arith, sym, ◌∙◌}
use Rattle.std.proofs.lemmas.Result.{err_from_is_err_and}
use Rattle.rom.proofs.Refusals.{not-accepted}
use Rattle.image.specs.Image.{leaf_at}
use Rattle.header.proofs.Headers.{by-image, by-arguments, by-leaf, leaf-met, header-found}
use Rattle.header.proofs.read_header.Goals as goal

pub returns-in_err-check_image : goal.returns-in_err-check_image
returns-in_err-check_image c =
    let p = err_from_is_err_and c.from_residual.result c.from_residual.ensures.1 in
    rw (p.1, p.2) (by-image _ _ _ (not-accepted _) c.in_err-check_image.ensures)

pub returns-in_err-check_arguments : goal.returns-in_err-check_arguments
returns-in_err-check_arguments c =
    let r = c.from_residual-in_err-check_arguments in
    let p = err_from_is_err_and r.result r.ensures.1 in
    rw (p.1, p.2) (by-arguments _ _ c.in_ok-check_image.ensures _ (not-accepted _) c.in_err-check_arguments.ensures)

pub returns-in_err-check_leaf : goal.returns-in_err-check_leaf
unfolding leaf_at
returns-in_err-check_leaf c =
    let r = c.from_residual-in_err-check_leaf in
    let p = err_from_is_err_and r.result r.ensures.1 in
    let leaf = rw c.from-controller.ensures at (c.from-leaf.ensures ∙ c.word_at.ensures) in
    let edition = c.is_first_edition-first_edition.ensures in
    rw (p.1, p.2)
    (by-leaf _ _ c.in_ok-check_image.ensures c.in_ok-check_arguments.ensures _ (not-accepted _)
    (leaf-met _ c.args.arguments c.row_of-row.ensures leaf edition c.in_err-check_leaf.ensures))

pub header_at-requires : goal.header_at-requires
unfolding leaf_at
header_at-requires c = (c.row_of-row.ensures, (rw c.from-controller.ensures at (c.from-leaf.ensures ∙ c.word_at.ensures)), omega arith)

pub returns : goal.returns
unfolding leaf_at
returns c =
    let leaf = rw c.from-controller.ensures at (c.from-leaf.ensures ∙ c.word_at.ensures) in
    let edition = c.is_first_edition-first_edition.ensures in
    c.header_at.ensures
    ∙ header-found _ _ c.in_ok-check_image.ensures c.in_ok-check_arguments.ensures
    (leaf-met _ c.args.arguments c.row_of-row.ensures leaf edition c.in_ok-check_leaf.ensures)
