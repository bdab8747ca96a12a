-- The two bytes are read, and past the end both are 0. Assumes nothing.
use Rattle.rom.specs.Bytes.{word_at}
use Rattle.rom.proofs.Past.{word-past}
use Rattle.rom.proofs.word_at.Goals as goal

pub returns-then-bytes-at : goal.returns-then-bytes-at
returns-then-bytes-at c = word-past _ _ c.if-bytes-at.true

pub returns : goal.returns
unfolding word_at
returns c = cc
