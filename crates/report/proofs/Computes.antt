-- The definitions of words and of whether a size is named, opened together for the code that says the same. Assumes nothing.
use Rattle.rom.specs.Bytes.{pick}
use Rattle.rom.specs.Geometry.{other_size}
use Rattle.report.specs.Words.{arguments_words, connection_words}
use Rattle.report.specs.Sizes.{named_size, is_named}

unfoldable pub arguments_words_compute : Unit {0}
unfolding pick arguments_words
arguments_words_compute = tt

unfoldable pub connection_computes : Unit {0}
unfolding pick connection_words
connection_computes = tt

unfoldable pub is_named_computes : Unit {0}
unfolding other_size is_named
is_named_computes = tt

unfoldable pub named_size_computes : Unit {0}
unfolding pick other_size named_size is_named
named_size_computes = tt
