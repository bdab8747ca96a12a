-- A word that the program is started with.
use Rattle.std.specs.Prelude.{ℕ, Bool, List, leb, ltb}
use Prim.Native.String.{String}
use Rattle.rom.specs.Bytes.{pick}
use Rattle.text.specs.Slices.{same_bytes}
use Rattle.text.specs.Quoted.{quoted}
use Rattle.text.specs.Numbers.{decimal_number}
use Rattle.format.specs.Chips.{row_of}

-- whether it is this one
abbrev pub is_word : String → List ℕ → Bool
is_word s word = same_bytes word (quoted s)

-- the chip that it names, or 0; the 21140A counts as 21140, and a number that is no chip's has row 5
unfoldable pub chip_named : List ℕ → ℕ
chip_named word =
    pick (is_word "21140A" word) 21140
    (pick (ltb 65535 (decimal_number word)) 0
    (pick (leb 5 (row_of (decimal_number word))) 0 (decimal_number word)))
