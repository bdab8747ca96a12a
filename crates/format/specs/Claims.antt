-- What is claimed of one block's rules.
use Rattle.std.specs.Prelude.{ℕ, ◌≤◌, length, ◌≡◌, Bool, true, false, List, [], ◌∷◌, ◌++◌, map}
use Rattle.rom.specs.Bytes.{is_in}
use Rattle.rom.specs.Refusal.{Exact}
use Rattle.format.specs.Chips.{row_of, row21041, row21140, the_first_edition, the_later_edition, first_codes, later_codes}
use Rattle.format.specs.Chips.{taken_as, is_read}
use Rattle.format.specs.Chips.{is_connection}
use Rattle.format.specs.Block.{is_extended, length_of, size_of, the_first_version, causes, refusal_in, refusal_of}
use Rattle.format.specs.Cases.{said, block_cases}

-- a block's refusal is exact: other than 0, its cause is met and none before it is; 0, none is met
abbrev pub ExactBlock : Type 0
ExactBlock = (first : Bool) (row level : ℕ) (s : List ℕ) → Exact (causes first row level s) (refusal_in first row level s)

-- an extended block of length 0 is refused at every level, also where the rest ends with its first byte
abbrev pub EmptyRefused : Type 0
EmptyRefused = (row level : ℕ) (s : List ℕ) → is_extended row s ≡ true → length_of s ≡ 0 → refusal_of row level s ≡ 14

-- what a level accepts every older level accepts
abbrev pub AcceptedBelow : Type 0
AcceptedBelow = (first : Bool) (row older newest : ℕ) (s : List ℕ) → older ≤ newest
    → refusal_in first row newest s ≡ 0 → refusal_in first row older s ≡ 0

-- in version 1 an extended block that lies in the rest gets 14 at every level, whether the level knows its type or not
abbrev pub ExtendedRefused : Type 0
ExtendedRefused = (row level : ℕ) (s : List ℕ) → is_extended row s ≡ true → size_of row s ≤ length s
    → refusal_in the_first_version row level s ≡ 14

-- 21041 and compact blocks are judged as in versions 3 and 4
abbrev pub OthersAlike : Type 0
OthersAlike = (row level : ℕ) (s : List ℕ) → is_extended row s ≡ false → refusal_in the_first_version row level s ≡ refusal_of row level s

-- edition 1.00 reads 0x0200 and 0x0203 where the chip's row has 0x0204 and 0x0205, and not these; edition 1.01 reads the row, which
-- has neither 0x0200 nor 0x0203; on every other code they agree
abbrev pub EachItsOwn : Type 0
EachItsOwn = (row : ℕ) →
    (is_read the_first_edition row 0x0200 ≡ is_connection row 0x0204)
    × (is_read the_first_edition row 0x0203 ≡ is_connection row 0x0205)
    × (is_read the_first_edition row 0x0204 ≡ false)
    × (is_read the_first_edition row 0x0205 ≡ false)
    × ((code : ℕ) → is_read the_later_edition row code ≡ is_connection row code)
    × (is_connection row 0x0200 ≡ false)
    × (is_connection row 0x0203 ≡ false)
    × ((code : ℕ) → is_in code (first_codes ++ later_codes) ≡ false → is_read the_first_edition row code
    ≡ is_read the_later_edition row code)

-- the rows that have a name are those of their chips
abbrev pub NamedRows : Type 0
NamedRows = (row_of 21041 ≡ row21041) × (row_of 21140 ≡ row21140)

-- 0x0200, 0x0203, 0x0204, 0x0205: which of them each edition reads for the 21041 and for the 21140, and what they are taken as
abbrev pub CodesWorked : Type 0
CodesWorked =
    (map (is_read the_first_edition row21041) (first_codes ++ later_codes) ≡ true ∷ false ∷ false ∷ false ∷ [])
    × (map (is_read the_later_edition row21041) (first_codes ++ later_codes) ≡ false ∷ false ∷ true ∷ false ∷ [])
    × (map (is_read the_first_edition row21140) (first_codes ++ later_codes) ≡ true ∷ true ∷ false ∷ false ∷ [])
    × (map (is_read the_later_edition row21140) (first_codes ++ later_codes) ≡ false ∷ false ∷ true ∷ true ∷ [])
    × (map taken_as (first_codes ++ later_codes) ≡ 0x0204 ∷ 0x0205 ∷ 0x0204 ∷ 0x0205 ∷ [])

-- what is said of blocks is as it stands in the list of cases
abbrev pub BlocksWorked : Type 0
BlocksWorked = map said block_cases ≡ block_cases
