-- The size of the ROM whose bytes a file holds.
use Rattle.std.specs.Prelude.{ℕ, Bool, ◌||◌, eqb, Option, Some, None}
use Rattle.std.specs.Option.{is_some, unwrap_or}
use Rattle.rom.specs.Bytes.{pick}
use Rattle.rom.specs.Geometry.{small_size, large_size, other_size}

-- by the file's length; one that is no ROM's counts as the smaller, for which it is refused
unfoldable pub size_by_length : ℕ → ℕ
size_by_length length = pick (eqb length large_size) large_size small_size

-- what --size says, where it is given, or else what the length does
unfoldable pub size_for : Option ℕ → ℕ → ℕ
size_for said length = unwrap_or said (size_by_length length)

-- whether a verdict names it: it was given, or is not the smaller
unfoldable pub is_named : Bool → ℕ → Bool
is_named given size = given || other_size size

-- the size that it names
unfoldable pub named_size : Option ℕ → ℕ → Option ℕ
named_size said length = pick (is_named (is_some said) (size_for said length)) (Some (size_for said length)) None
