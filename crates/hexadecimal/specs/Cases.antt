-- A text of each form, and texts with which something is wrong.
use Rattle.std.specs.Prelude.{ℕ, List, [], ◌∷◌, ◌++◌, replicate, Some}
use Prim.Native.String.{String}
use Rattle.text.specs.Quoted.{quoted}
use Rattle.hexadecimal.specs.Held.{problem_number}
use Rattle.hexadecimal.specs.declared.held.Problem.{Problem}
use Rattle.hexadecimal.specs.declared.held.Problem.TheVariants.{NoOffset, WrongOffset, NoByte, NoBytes}
use Rattle.hexadecimal.specs.Text.{decoded}
use Rattle.hexadecimal.specs.declared.DecodedText.{DecodedText}

-- what is found of a text: a problem or 0, the lines read, the bytes
pub record Found : Type 0 where
  pub problem : ℕ
  pub lines : ℕ
  pub bytes : List ℕ

unfoldable pub found_in : DecodedText → Found
found_in r = record { problem = problem_number r.held.problem; lines = r.line; bytes = r.held.bytes.items }

-- a text and what is found of it
pub record TextCase : Type 0 where
  pub source : String
  pub found : Found

unfoldable pub found_again : TextCase → TextCase
found_again x = record { source = x.source; found = found_in (decoded (quoted x.source)) }

abbrev fine_text : String → ℕ → List ℕ → TextCase
fine_text source lines bytes = record { source = source; found = record { problem = 0; lines = lines; bytes = bytes } }

abbrev bad_text : String → Problem → ℕ → List ℕ → TextCase
bad_text source problem lines bytes = record {
  source = source;
  found = record { problem = problem_number (Some problem); lines = lines; bytes = bytes };
}

abbrev four_bytes : List ℕ
four_bytes = 0x34 ∷ 0x20 ∷ 0x04 ∷ 0x01 ∷ []

unfoldable pub text_cases : List TextCase
text_cases =
    fine_text "Offset\t\tValues\n------\t\t------\n0x0000:\t\t34 20 04 01 \n" 3 four_bytes
    ∷ fine_text "EEPROM contents (2 words):\n0x00:  2034 0104\n" 2 four_bytes
    ∷ fine_text "0x00:  2034 0104\n ID block CRC 0xe1 (vs. 0xe1).\n0x02:  0000\n" 3 four_bytes
    ∷ fine_text "00000000: 3420 0401                                4 ..\n" 1 four_bytes
    ∷ fine_text "00000000: 3420 04                                  4 .\n" 1 (0x34 ∷ 0x20 ∷ 0x04 ∷ [])
    ∷ fine_text "00000000  34 20 04 01                                       |4 ..|\n00000004\n" 2 four_bytes
    ∷ fine_text "000000 34 20 04 01\n000004\n" 2 four_bytes
    ∷ fine_text "0000000 2034 0104\n0000004\n" 2 four_bytes
    ∷ fine_text "\n34200401" 2 four_bytes
    ∷ fine_text " 34 2004\r\n\t01\r\n" 2 four_bytes
    ∷ fine_text "0000000 0000 0000 0000 0000 0000 0000 0000 0000\n*\n0000020 0001\n0000022\n" 4 (replicate 32 0 ++ 1 ∷ 0 ∷ [])
    ∷ bad_text "pan 3: card replaced on Tuesday\n" NoBytes 1 []
    ∷ bad_text "notes\n3420\n" NoBytes 2 []
    ∷ bad_text "00000000: 3420\n34 20\n" NoOffset 2 (0x34 ∷ 0x20 ∷ [])
    ∷ bad_text "00000010: 3420\n" WrongOffset 1 []
    ∷ bad_text "000000 34 2\n" NoByte 1 (0x34 ∷ [])
    ∷ bad_text "000000 34 2g\n" NoByte 1 (0x34 ∷ [])
    ∷ bad_text "000000 34 20 0|\n" NoByte 1 (0x34 ∷ 0x20 ∷ [])
    ∷ bad_text "34 2 0" NoByte 1 (0x34 ∷ [])
    ∷ []
