-- The chips and what each takes (document 01, 'Leaf and blocks'; document 02, requests 3 and 12): one row a chip, at the same place in
-- every table.
use Rattle.std.specs.Prelude.{ℕ, ◌+◌, List, [], ◌∷◌, ◌++◌, Bool, true, false, ◌&&◌, not, eqb, get_or}
use Rattle.rom.specs.Bytes.{pick, is_in}

-- ## Chips

-- by their decimal numbers, in the order of their rows
unfoldable pub chips : List ℕ
chips = 21041 ∷ 21140 ∷ 21142 ∷ 21143 ∷ 21145 ∷ []

-- the place of x in a list, searched from the front; the list's length where it is not there
unfoldable pub place_of : ℕ → List ℕ → ℕ
place_of x [] = 0
place_of x (y ∷ ys) = pick (eqb y x) 0 (1 + place_of x ys)

-- a chip's row: its place among the chips, 5 where it is none of them
unfoldable pub row_of : ℕ → ℕ
row_of chip = place_of chip chips

-- the chip with a block form of its own
abbrev pub row21041 : ℕ
row21041 = 0

-- the chip whose leaf has a general purpose control byte
abbrev pub row21140 : ℕ
row21140 = 1

-- ## Connection types

unfoldable pub connections21041 : List ℕ
connections21041 = 0x0000 ∷ 0x0100 ∷ 0x0204 ∷ 0x0400 ∷ 0x0001 ∷ 0x0002 ∷ 0x0800 ∷ 0x0900 ∷ 0xFFFF ∷ []

unfoldable pub connections21140 : List ℕ
connections21140 = 0x0000 ∷ 0x0100 ∷ 0x0204 ∷ 0x0001 ∷ 0x0003 ∷ 0x0205 ∷ 0x0006 ∷ 0x0007 ∷ 0x0208 ∷ 0x0009 ∷ 0x020A ∷ 0x000D ∷ 0x020E
    ∷ 0x000F ∷ 0x0010 ∷ 0x0211 ∷ 0x0800 ∷ 0x8800 ∷ 0xFFFF ∷ []

-- the 21140's list and 0x0002
unfoldable pub connections21142 : List ℕ
connections21142 = connections21140 ++ 0x0002 ∷ []

unfoldable pub connection_rows : List (List ℕ)
connection_rows = connections21041 ∷ connections21140 ∷ connections21142 ∷ connections21142 ∷ connections21142 ∷ []

-- whether the chip at a row takes the connection type; past the last row none does
unfoldable pub is_connection : ℕ → ℕ → Bool
is_connection row code = is_in code (get_or connection_rows row [])

-- ## The first version (document 02, request 12)

-- it has these chips only
unfoldable pub first_chips : List ℕ
first_chips = 21041 ∷ 21140 ∷ []

-- its editions, 1.00 and 1.01
abbrev pub the_first_edition : Bool
the_first_edition = true

abbrev pub the_later_edition : Bool
the_later_edition = false

-- the codes that edition 1.00 alone has, and those that 1.01 has in their place
unfoldable pub first_codes : List ℕ
first_codes = 0x0200 ∷ 0x0203 ∷ []

unfoldable pub later_codes : List ℕ
later_codes = 0x0204 ∷ 0x0205 ∷ []

-- what a type is taken as: a code of edition 1.00 as that of 1.01, every other as itself
unfoldable pub taken_as : ℕ → ℕ
taken_as code = pick (eqb code 0x0200) 0x0204 (pick (eqb code 0x0203) 0x0205 code)

-- whether an edition reads the type for the chip at a row: 1.00 its own code where the row has that of 1.01, and not that of 1.01
unfoldable pub is_read : Bool → ℕ → ℕ → Bool
is_read edition row code = pick edition (not (is_in code later_codes) && is_connection row (taken_as code)) (is_connection row code)

-- ## Kinds of blocks: an extended type has its own number

abbrev pub kind_compact : ℕ
kind_compact = 256

abbrev pub kind21041 : ℕ
kind21041 = 257

-- how many extended types there are to know: 0 to 6
abbrev pub newest_level : ℕ
newest_level = 7

unfoldable pub permitted_rows : List (List ℕ)
permitted_rows =
    (kind21041 ∷ [])
    ∷ (kind_compact ∷ 0 ∷ 1 ∷ 5 ∷ [])
    ∷ (2 ∷ 3 ∷ 5 ∷ [])
    ∷ (2 ∷ 3 ∷ 4 ∷ 5 ∷ 6 ∷ [])
    ∷ (2 ∷ 3 ∷ 4 ∷ 5 ∷ 6 ∷ []) ∷ []

-- whether the chip at a row permits blocks of the kind
unfoldable pub is_permitted : ℕ → ℕ → Bool
is_permitted row kind = is_in kind (get_or permitted_rows row [])

-- ## Media codes

-- 21041 and type 2, the SIA media
unfoldable pub sia_codes : List ℕ
sia_codes = 0 ∷ 1 ∷ 2 ∷ 4 ∷ []

-- compact and type 0, media on the general purpose port
unfoldable pub port_codes : List ℕ
port_codes = 0 ∷ 1 ∷ 3 ∷ 4 ∷ 5 ∷ 6 ∷ 7 ∷ 8 ∷ []

-- type 4, the SYM media
unfoldable pub sym_codes : List ℕ
sym_codes = 3 ∷ 5 ∷ 6 ∷ 7 ∷ 8 ∷ []

-- codes for which the Default bit does not count
unfoldable pub never_default : List ℕ
never_default = 4 ∷ 5 ∷ 8 ∷ []
