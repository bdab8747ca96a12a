-- What an option's value says: six bytes, or a command's word, in hexadecimal; or an edition.
use Rattle.std.specs.Prelude.{ℕ, ◌+◌, ◌%◌, Bool, true, ◌&&◌, ◌||◌, not, List, [], ◌∷◌, eqb, leb, ltb, length, take, drop}
use Rattle.rom.specs.Bytes.{pick}
use Rattle.text.specs.Numbers.{digit_of}
use Rattle.hexadecimal.specs.Offset.{run_of, behind_mark, value_of}
use Rattle.console.specs.Word.{is_word}

-- ## Six bytes: xx:xx:xx:xx:xx:xx

-- whether a character stands where it belongs: each third is a colon (58), and the others are digits
unfoldable pub is_in_place : ℕ → ℕ → Bool
is_in_place place c = pick (eqb (place % 3) 2) (eqb c 58) (ltb (digit_of c) 16)

-- the same of all characters from a place on
unfoldable pub are_in_place : ℕ → List ℕ → Bool
are_in_place place [] = true
are_in_place place (c ∷ cs) = is_in_place place c && are_in_place (place + 1) cs

unfoldable pub is_six_bytes : List ℕ → Bool
is_six_bytes word = eqb (length word) 17 && are_in_place 0 word

-- the byte whose two digits stand from a place on
unfoldable pub byte_named : List ℕ → ℕ → ℕ
byte_named word place = value_of (take 2 (drop place word)) % 256

-- the bytes of a word that is six
unfoldable pub six_bytes : List ℕ → List ℕ
six_bytes word =
    byte_named word 0 ∷ byte_named word 3 ∷ byte_named word 6 ∷ byte_named word 9 ∷ byte_named word 12 ∷ byte_named word 15 ∷ []

-- ## A command's word: one to four digits, with 0x before them or not

-- whether a text is one to four digits, and nothing else
unfoldable pub spells_word : List ℕ → Bool
spells_word s = not (eqb (length s) 0) && leb (length s) 4 && eqb (run_of true s) (length s)

-- the word that they spell, or 65536 where there is none
unfoldable pub command_word : List ℕ → ℕ
command_word word = pick (spells_word (behind_mark word)) (value_of (behind_mark word)) 65536

-- ## An edition of version 1: 1.00 or 1.01

unfoldable pub names_first : List ℕ → Bool
names_first word = is_word "1.00" word

unfoldable pub names_edition : List ℕ → Bool
names_edition word = names_first word || is_word "1.01" word
