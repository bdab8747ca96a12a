-- The definitions of a leaf's blocks, opened together for what computes: `unfolding leaf-computes`.
use Rattle.rom.specs.Geometry.{image_length, magic_at, board_length, leaves_end}
use Rattle.rom.specs.Bytes.{keep, any_below}
use Rattle.format.specs.Block.{is_reset, is_skipped, sets_mode}
use Rattle.format.proofs.Computes.{block-computes}
use Rattle.leaf.specs.Leaf.{cut, count_of, first_from, clash, block_causes, clash_cause, mode_cause, whole_causes, leaf_causes}
use Rattle.leaf.specs.Leaf.{placed, table, table_of}
use Rattle.leaf.specs.Tally.{no_tally, counts, tally_of}

unfoldable pub leaf-computes : Unit {0}
unfolding block-computes image_length magic_at board_length leaves_end any_below is_reset is_skipped sets_mode
    cut count_of first_from clash block_causes clash_cause mode_cause whole_causes leaf_causes placed keep table no_tally counts tally_of
    table_of
leaf-computes = tt
