-- The definitions of a header's causes, opened together for the tests of the code. Assumes nothing.
use Rattle.rom.specs.Bytes.{pick}
use Rattle.rom.specs.Refusal.{first_met}
use Rattle.image.specs.Image.{argument_causes, address_of, leaf_header_causes, blocks_at}

unfoldable pub arguments_compute : Unit {0}
unfolding pick first_met argument_causes address_of
arguments_compute = tt

unfoldable pub leaf_computes : Unit {0}
unfolding pick first_met leaf_header_causes blocks_at
leaf_computes = tt
