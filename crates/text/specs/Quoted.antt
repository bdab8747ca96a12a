-- Texts that are written out.
use Rattle.std.specs.Prelude.{ℕ, List, [], ◌∷◌}
use Prim.Native.Char.{code}
use Prim.Native.String.{String, [] as none, ◌∷◌ as ◌then◌}

-- the characters of a quoted text, by their codes
abbrev pub quoted : String → List ℕ
quoted none = []
quoted (c then s) = code c ∷ quoted s
