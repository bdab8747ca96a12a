-- The causes in their order, each as its test found it. Assumes nothing.
use Rattle.std.proofs.Common.{sym, ◌∙◌, ◌∷◌, []}
use Rattle.std.proofs.lemmas.Result.{err_from_is_err_and}
use lib.Dec.{lit<}
use Rattle.rom.specs.Refusal.{◌⇒◌}
use Rattle.rom.proofs.Reached.{reached, stop, skip, among, past, end}
use Rattle.rom.proofs.Refusals.{not-accepted}
use Rattle.checksum.proofs.Answers.{right-passed}
use Rattle.image.specs.Image.{magic_causes, image_causes}
use Rattle.image.proofs.Causes.{magic-numbered}
use Rattle.header.proofs.check_image.Goals as goal

pub check_srom_crc-requires : goal.check_srom_crc-requires
check_srom_crc-requires c = right-passed _ _ c.in_ok-check_length.ensures

pub check_id_crc-requires : goal.check_id_crc-requires
check_id_crc-requires c = right-passed _ _ c.in_ok-check_length.ensures

pub check_magic-requires : goal.check_magic-requires
check_magic-requires c = right-passed _ _ c.in_ok-check_length.ensures

pub returns-in_err-check_length : goal.returns-in_err-check_length
unfolding image_causes
returns-in_err-check_length c =
    let p = err_from_is_err_and c.from_residual.result c.from_residual.ensures.1 in
    rw (p.1, p.2)
    (reached
    (among ((1 ⇒ _) ∷ []) _ (not-accepted _) (sym c.in_err-check_length.ensures)))

pub returns-then-bad_version : goal.returns-then-bad_version
unfolding image_causes
returns-then-bad_version c =
    reached
    (skip (right-passed _ _ c.in_ok-check_length.ensures)
    (stop (sym c.bad_version.ensures ∙ c.if-bad_version.true)))

pub returns-in_err-check_srom_crc : goal.returns-in_err-check_srom_crc
unfolding image_causes
returns-in_err-check_srom_crc c =
    let p = err_from_is_err_and c.from_residual-in_err-check_srom_crc.result c.from_residual-in_err-check_srom_crc.ensures.1 in
    rw (p.1, p.2)
    (reached
    (skip (right-passed _ _ c.in_ok-check_length.ensures)
    (skip (sym c.bad_version.ensures ∙ c.if-bad_version.false)
    (among ((3 ⇒ _) ∷ []) _ (not-accepted _) (sym c.in_err-check_srom_crc.ensures)))))

pub returns-in_err-check_id_crc : goal.returns-in_err-check_id_crc
unfolding image_causes
returns-in_err-check_id_crc c =
    let p = err_from_is_err_and c.from_residual-in_err-check_id_crc.result c.from_residual-in_err-check_id_crc.ensures.1 in
    rw (p.1, p.2)
    (reached
    (skip (right-passed _ _ c.in_ok-check_length.ensures)
    (skip (sym c.bad_version.ensures ∙ c.if-bad_version.false)
    (past ((3 ⇒ _) ∷ []) (lit< tt, tt) (sym c.in_ok-check_srom_crc.ensures)
    (among ((4 ⇒ _) ∷ []) _ (not-accepted _) (sym c.in_err-check_id_crc.ensures))))))

pub returns-in_err-check_magic : goal.returns-in_err-check_magic
unfolding image_causes
returns-in_err-check_magic c =
    let p = err_from_is_err_and c.from_residual-in_err-check_magic.result c.from_residual-in_err-check_magic.ensures.1 in
    rw (p.1, p.2)
    (reached
    (skip (right-passed _ _ c.in_ok-check_length.ensures)
    (skip (sym c.bad_version.ensures ∙ c.if-bad_version.false)
    (past ((3 ⇒ _) ∷ []) (lit< tt, tt) (sym c.in_ok-check_srom_crc.ensures)
    (past ((4 ⇒ _) ∷ []) (lit< tt, tt) (sym c.in_ok-check_id_crc.ensures)
    (among (magic_causes _ _) _ (not-accepted _) (sym c.in_err-check_magic.ensures)))))))

pub returns-then-bad_count : goal.returns-then-bad_count
unfolding image_causes
returns-then-bad_count c =
    reached
    (skip (right-passed _ _ c.in_ok-check_length.ensures)
    (skip (sym c.bad_version.ensures ∙ c.if-bad_version.false)
    (past ((3 ⇒ _) ∷ []) (lit< tt, tt) (sym c.in_ok-check_srom_crc.ensures)
    (past ((4 ⇒ _) ∷ []) (lit< tt, tt) (sym c.in_ok-check_id_crc.ensures)
    (past (magic_causes _ _) (magic-numbered _ _) (sym c.in_ok-check_magic.ensures)
    (stop (sym c.bad_count.ensures ∙ c.if-bad_count.true)))))))

pub returns : goal.returns
unfolding image_causes
returns c =
    reached
    (skip (right-passed _ _ c.in_ok-check_length.ensures)
    (skip (sym c.bad_version.ensures ∙ c.if-bad_version.false)
    (past ((3 ⇒ _) ∷ []) (lit< tt, tt) (sym c.in_ok-check_srom_crc.ensures)
    (past ((4 ⇒ _) ∷ []) (lit< tt, tt) (sym c.in_ok-check_id_crc.ensures)
    (past (magic_causes _ _) (magic-numbered _ _) (sym c.in_ok-check_magic.ensures)
    (skip (sym c.bad_count.ensures ∙ c.if-bad_count.false) end))))))
