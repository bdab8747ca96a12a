-- At each turn the line and the names that are left are the whole. Assumes nothing.
use Rattle.std.proofs.Common.{◌++◌, map, drop}
use Rattle.text.specs.Written.{text_of}
use Rattle.text.proofs.Building.{Building}
use Rattle.report.specs.Words.{set_names}
use Rattle.report.proofs.words.bit_words.Given as goal

abbrev pub invariant-loop-name : goal.invariant-loop-name
invariant-loop-name l =
    Building (text_of l.initial.line ++ set_names (map (λ n. n.now) l.names) l.first l.other l.bits-2) l.line
    (set_names (map (λ n. n.now) (drop l.name-index l.names)) l.before l.other l.bits)
