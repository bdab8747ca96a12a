-- Tables: each line is a key, a blank and words.
use Rattle.std.specs.Prelude.{ℕ, Bool, ◌&&◌, List, [], ◌∷◌, eqb, length, take, drop}
use Rattle.rom.specs.Bytes.{pick, byte_at}
use Rattle.text.specs.Slices.{same_bytes}
use Rattle.text.specs.Lines.{lines_of}

abbrev pub blank : ℕ
blank = 32

-- whether a line begins with a key and a blank
unfoldable pub has_key : List ℕ → List ℕ → Bool
has_key key line = eqb (byte_at line (length key)) blank && same_bytes (take (length key) line) key

-- the words behind a key: those of the first line that has it
unfoldable pub words_in : List ℕ → List (List ℕ) → List ℕ
words_in key [] = []
words_in key (l ∷ ls) = pick (has_key key l) (drop 1 (drop (length key) l)) (words_in key ls)

abbrev pub words_for : List ℕ → List ℕ → List ℕ
words_for table key = words_in key (lines_of table)
