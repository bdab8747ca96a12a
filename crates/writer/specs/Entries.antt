-- The entries that three parallel parts hold.
use Rattle.std.specs.Prelude.{List, length}
use Rattle.sheet.specs.Record.{Entry}
use Rattle.sheet.specs.Sheet.{entries_from}
use Rattle.writer.specs.declared.parts.Entries.{Entries}

abbrev pub entries_left : Entries → List Entry
entries_left e = entries_from (length e.sizes.now) e.kinds.now e.sizes.now e.bodies.now
