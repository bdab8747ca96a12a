-- What a block is found to be, or why it is refused, and the number and values of documents 01 and 02 for each of its cases.
use Rattle.std.specs.Prelude.{ℕ, List, Bool, false, eqb, Result, Ok, Err}
use Rattle.rom.specs.Geometry.{none}
use Rattle.rom.specs.Bytes.{pick}
use Rattle.rom.specs.declared.refusal.Refusal.{Refusal}
use Rattle.rom.specs.Numbers.{refusal_number}
use Rattle.block.specs.declared.Block.{Block}
use Rattle.block.specs.declared.Medium.{Medium}
use Rattle.block.specs.declared.Block.TheVariants as code
use Rattle.format.specs.Block.{Facts, size_of, kind_of, is_known, facts_of, refusal_in, refusal_of}

-- ## The cases

pub data Verdict : Type 0 where
  Listed : Medium → Verdict
  Reset : ℕ → Verdict
  Power : ℕ → ℕ → Verdict
  Unknown : ℕ → Verdict
  Refused : ℕ → Verdict

-- what is said of a medium or a PHY
abbrev pub medium_of : ℕ → ℕ → Facts → Medium
medium_of kind size f =
    record {
      kind = kind;
      size = size;
      media_code = f.code;
      capabilities = f.capabilities;
      active_invalid = f.active_invalid;
      is_default = f.is_default;
      resets_phy = f.resets_phy;
    }

abbrev pub listed : ℕ → ℕ → Facts → Verdict
listed kind size f = Listed (medium_of kind size f)

-- known blocks but types 5 and 6 are listed
unfoldable pub found : ℕ → ℕ → Facts → Verdict
found kind size f = pick (eqb kind 5) (Reset size) (pick (eqb kind 6) (Power size f.mode) (listed kind size f))

-- a refusal has its number and no more
unfoldable pub answered : ℕ → Verdict → Verdict
answered n b = pick (eqb n 0) b (Refused n)

-- the block at the start of the rest, for the chip at a row and a reader of a level
unfoldable pub block_of : ℕ → ℕ → List ℕ → Verdict
block_of row level s =
    answered (refusal_of row level s)
    (pick (is_known level (kind_of row s)) (found (kind_of row s) (size_of row s) (facts_of (kind_of row s) s)) (Unknown (size_of row s)))

-- the same in an image of version 1, if it is one
unfoldable pub block_in : Bool → ℕ → ℕ → List ℕ → Verdict
block_in first row level s = answered (refusal_in first row level s) (block_of row level s)

-- ## Their numbers and values

-- the refusal's number, 0 for acceptance
abbrev pub number_of : Verdict → ℕ
number_of (Listed m) = 0
number_of (Reset size) = 0
number_of (Power size mode) = 0
number_of (Unknown size) = 0
number_of (Refused n) = n

-- how far the next block is; a refused block has no next
abbrev pub size_in : Verdict → ℕ
size_in (Listed m) = m.size
size_in (Reset size) = size
size_in (Power size mode) = size
size_in (Unknown size) = size
size_in (Refused n) = 0

-- how many entries of the table the block has
abbrev pub listed_in : Verdict → ℕ
listed_in (Listed m) = 1
listed_in (Reset size) = 0
listed_in (Power size mode) = 0
listed_in (Unknown size) = 0
listed_in (Refused n) = 0

-- the kind in its entry, 0 where it has none
abbrev pub kind_in : Verdict → ℕ
kind_in (Listed m) = m.kind
kind_in (Reset size) = 0
kind_in (Power size mode) = 0
kind_in (Unknown size) = 0
kind_in (Refused n) = 0

-- whether it has Active_Invalid
abbrev pub invalid_in : Verdict → Bool
invalid_in (Listed m) = m.active_invalid
invalid_in (Reset size) = false
invalid_in (Power size mode) = false
invalid_in (Unknown size) = false
invalid_in (Refused n) = false

-- whether it is a default
abbrev pub default_in : Verdict → Bool
default_in (Listed m) = m.is_default
default_in (Reset size) = false
default_in (Power size mode) = false
default_in (Unknown size) = false
default_in (Refused n) = false

-- whether it is a PHY block with r above 0
abbrev pub phy_reset_in : Verdict → Bool
phy_reset_in (Listed m) = m.resets_phy
phy_reset_in (Reset size) = false
phy_reset_in (Power size mode) = false
phy_reset_in (Unknown size) = false
phy_reset_in (Refused n) = false

-- its media code, none where it has none
abbrev pub code_in : Verdict → ℕ
code_in (Listed m) = m.media_code
code_in (Reset size) = none
code_in (Power size mode) = none
code_in (Unknown size) = none
code_in (Refused n) = none

-- the capability word of a PHY, 0 where it is none
abbrev pub capabilities_in : Verdict → ℕ
capabilities_in (Listed m) = m.capabilities
capabilities_in (Reset size) = 0
capabilities_in (Power size mode) = 0
capabilities_in (Unknown size) = 0
capabilities_in (Refused n) = 0

-- the mode byte of a power block, 0 where it is none
abbrev pub mode_in : Verdict → ℕ
mode_in (Listed m) = 0
mode_in (Reset size) = 0
mode_in (Power size mode) = mode
mode_in (Unknown size) = 0
mode_in (Refused n) = 0

-- ## What the code finds

abbrev pub found_as : Block → Verdict
found_as (code.Listed m) = Listed m
found_as (code.Reset size) = Reset size
found_as (code.Power size mode) = Power size mode
found_as (code.Unknown size) = Unknown size

-- what it answers
abbrev pub verdict_of : Result Block Refusal → Verdict
verdict_of (Ok b) = found_as b
verdict_of (Err r) = Refused (refusal_number r)
