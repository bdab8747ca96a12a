-- A refusal's number is none of acceptance. Assumes nothing.
use Rattle.std.proofs.Common.{◌≡◌, ◌<◌, arith}
use Rattle.rom.specs.declared.refusal.Refusal.{Refusal}
use Rattle.rom.specs.declared.refusal.Refusal.TheVariants.{ImageLength, Version, SromCrc, IdCrc, ControllerCount, Controller}
use Rattle.rom.specs.declared.refusal.Refusal.TheVariants.{Chip, Level, Address, LeafHeader, ConnectionType, ArrayLength}
use Rattle.rom.specs.declared.refusal.Refusal.TheVariants.{BlockEnd, BlockType, BlockLength, BlockCode}
use Rattle.rom.specs.declared.refusal.Refusal.TheVariants.{Advertisement, Clash, Report, Fresh, Loaded, Looks, Sheet, SheetEntry}
use Rattle.rom.specs.declared.refusal.Refusal.TheVariants.{LeafEnd, Untidy, MagicCrc, MagicReserved, RepeatedMode, NoFixedMedium}
use Rattle.rom.specs.declared.refusal.Refusal.TheVariants.{SheetTooLarge, FirstVersionChip}
use Rattle.rom.specs.Numbers.{refusal_number}

pub refused_above : (r : Refusal) → 0 < refusal_number r
refused_above ImageLength = omega arith
refused_above Version = omega arith
refused_above SromCrc = omega arith
refused_above IdCrc = omega arith
refused_above ControllerCount = omega arith
refused_above Controller = omega arith
refused_above Chip = omega arith
refused_above Level = omega arith
refused_above Address = omega arith
refused_above LeafHeader = omega arith
refused_above ConnectionType = omega arith
refused_above ArrayLength = omega arith
refused_above BlockEnd = omega arith
refused_above BlockType = omega arith
refused_above BlockLength = omega arith
refused_above BlockCode = omega arith
refused_above Advertisement = omega arith
refused_above Clash = omega arith
refused_above Report = omega arith
refused_above Fresh = omega arith
refused_above Loaded = omega arith
refused_above Looks = omega arith
refused_above Sheet = omega arith
refused_above SheetEntry = omega arith
refused_above LeafEnd = omega arith
refused_above Untidy = omega arith
refused_above MagicCrc = omega arith
refused_above MagicReserved = omega arith
refused_above RepeatedMode = omega arith
refused_above NoFixedMedium = omega arith
refused_above SheetTooLarge = omega arith
refused_above FirstVersionChip = omega arith

pub not-accepted : (r : Refusal) → refusal_number r ≡ 0 → ⊥
not-accepted r e = let above = refused_above r in omega arith
