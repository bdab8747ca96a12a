-- The lines of a text. Each ends with '\n', which is no part of it; the last may go without.
use Rattle.std.specs.Prelude.{ℕ, List, [], ◌∷◌, eqb, length, drop}
use Rattle.rom.specs.Bytes.{pick}

abbrev pub newline : ℕ
newline = 10

-- the first line of a text, without its end
unfoldable pub line_of : List ℕ → List ℕ
line_of [] = []
line_of (c ∷ cs) = pick (eqb c newline) [] (c ∷ line_of cs)

-- what stands behind the first line and its end
abbrev pub behind_line : List ℕ → List ℕ
behind_line s = drop 1 (drop (length (line_of s)) s)

-- a character in front of the first of some lines
abbrev pub in_front : ℕ → List (List ℕ) → List (List ℕ)
in_front c [] = (c ∷ []) ∷ []
in_front c (l ∷ ls) = (c ∷ l) ∷ ls

-- all lines: '\n' ends an empty one, and any other character stands in front of the first line of the rest
unfoldable pub lines_of : List ℕ → List (List ℕ)
lines_of [] = []
lines_of (c ∷ cs) = pick (eqb c newline) ([] ∷ lines_of cs) (in_front c (lines_of cs))
