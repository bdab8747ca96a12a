-- The number of a refusal, and of a call's answer.
use Rattle.std.specs.Prelude.{ℕ, Option, Some, None, Result, Ok, Err}
use Rattle.rom.specs.Geometry.{none}
use Rattle.rom.specs.declared.refusal.Refusal.{Refusal}
use Rattle.rom.specs.declared.refusal.Refusal.TheVariants.{ImageLength, Version, SromCrc, IdCrc, ControllerCount, Controller}
use Rattle.rom.specs.declared.refusal.Refusal.TheVariants.{Chip, Level, Address, LeafHeader, ConnectionType, ArrayLength}
use Rattle.rom.specs.declared.refusal.Refusal.TheVariants.{BlockEnd, BlockType, BlockLength, BlockCode, Advertisement, Clash}
use Rattle.rom.specs.declared.refusal.Refusal.TheVariants.{Report, Fresh, Loaded, Looks, Sheet, SheetEntry, LeafEnd, Untidy}
use Rattle.rom.specs.declared.refusal.Refusal.TheVariants.{MagicCrc, MagicReserved, RepeatedMode, NoFixedMedium, SheetTooLarge}
use Rattle.rom.specs.declared.refusal.Refusal.TheVariants.{FirstVersionChip}

abbrev pub refusal_number : Refusal → ℕ
refusal_number ImageLength = 1
refusal_number Version = 2
refusal_number SromCrc = 3
refusal_number IdCrc = 4
refusal_number ControllerCount = 5
refusal_number Controller = 6
refusal_number Chip = 7
refusal_number Level = 8
refusal_number Address = 9
refusal_number LeafHeader = 10
refusal_number ConnectionType = 11
refusal_number ArrayLength = 12
refusal_number BlockEnd = 13
refusal_number BlockType = 14
refusal_number BlockLength = 15
refusal_number BlockCode = 16
refusal_number Advertisement = 17
refusal_number Clash = 18
refusal_number Report = 19
refusal_number Fresh = 20
refusal_number Loaded = 21
refusal_number Looks = 23
refusal_number Sheet = 24
refusal_number SheetEntry = 25
refusal_number LeafEnd = 26
refusal_number Untidy = 27
refusal_number MagicCrc = 29
refusal_number MagicReserved = 30
refusal_number RepeatedMode = 31
refusal_number NoFixedMedium = 32
refusal_number SheetTooLarge = 33
refusal_number FirstVersionChip = 38

-- 0 where the call accepts
abbrev pub answer_number : {X : Type 0} → Result X Refusal → ℕ
answer_number (Ok x) = 0
answer_number (Err r) = refusal_number r

-- a block's number, or that of no block
abbrev pub number_or_none : Option ℕ → ℕ
number_or_none (Some k) = k
number_or_none None = none
