-- The definitions of readings, walks and sheets, opened together for what computes: `unfolding reading-computes` and so on. The
-- CRCs of an image stay shut: its causes are computed without them (Sealed.antt), and a theorem that asks for their values names them.
use Rattle.rom.specs.Store.{word_bytes}
use Rattle.image.proofs.Computes.{header-computes}
use Rattle.leaf.proofs.Computes.{leaf-computes}
use Rattle.reader.specs.Table.{tabled}
use Rattle.reader.specs.Reading.{leaf_causes_for, judge_causes, read_causes, refused_answer, accepted_answer, answer_for, read_into}
use Rattle.walk.specs.Walk.{no_flags, block_is, no_rows, fresh_walk, loaded_walk}
use Rattle.walk.proofs.Computes.{look-computes, rows-compute}
use Rattle.older.specs.Calls.{seen, after}
use Rattle.older.specs.Written.{entries}
use Rattle.sheet.specs.Lists.{sum, padded, over}
use Rattle.sheet.specs.Form.{is_beyond}
use Rattle.sheet.specs.Sheet.{head_of, kind_bytes, size_bytes, body_bytes, parts_of, sheet_of, entries_from, plain_from, is_sheet}
use Rattle.sheet.specs.Image.{front_with, front_of, is_whole, opening_of, encodes, control_bytes, leaf_head_of, leaf_of}
use Rattle.sheet.specs.Image.{covered_of, board_of, image_of, newest_in}
use Rattle.sheet.specs.Image.{opening_length, body_of, image_from, sizes, leaf_end, is_tidy}
use Rattle.sheet.specs.Write.{is_other_family, is_bad_body, is_bad, any_bad, stray_control, cannot_hold, record_causes, too_many_blocks}
use Rattle.sheet.specs.Write.{wrong_output, write_causes, written}
use Rattle.sheet.specs.Make.{make_causes, make_number, make_length, made}
use Rattle.worked.specs.Cases.{sharing, unsealed_at, unsealed, sealed, behind_board, image_with, arguments_of}
use Rattle.worked.proofs.Unmet.{left_out}
use Rattle.worked.proofs.Sealed.{crcs_apart}
use Rattle.worked.proofs.Once.{read_number, judge_number, read_with, call_with, run_with, worked_once, order_once}
use Rattle.worked.proofs.SheetsApart.{write_apart, make_apart}

-- a whole image, and why it is refused
unfoldable pub image-computes : Unit {0}
unfolding leaf-computes header-computes leaf_causes_for judge_causes
    sharing unsealed_at unsealed sealed behind_board image_with left_out crcs_apart
image-computes = tt

-- what is read of it
unfoldable pub reading-computes : Unit {0}
unfolding image-computes refused_answer accepted_answer answer_for read_causes tabled read_into entries read_number read_with
reading-computes = tt

-- and walks of it
unfoldable pub walk-computes : Unit {0}
unfolding reading-computes look-computes rows-compute no_flags block_is no_rows fresh_walk loaded_walk seen after judge_number call_with
    run_with
    arguments_of worked_once order_once
walk-computes = tt

-- sheets and their images
unfoldable pub sheet-computes : Unit {0}
unfolding image-computes word_bytes sum padded over
    head_of kind_bytes size_bytes body_bytes parts_of sheet_of entries_from plain_from is_sheet
    front_with front_of is_whole opening_of encodes control_bytes leaf_head_of leaf_of is_beyond covered_of board_of image_of
    newest_in opening_length body_of image_from sizes leaf_end is_tidy
    is_other_family is_bad_body is_bad any_bad stray_control cannot_hold record_causes too_many_blocks wrong_output write_causes written
    make_causes make_number make_length made write_apart make_apart
sheet-computes = tt
