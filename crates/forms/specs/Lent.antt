-- What an entry with a lent body is.
use Rattle.sheet.specs.Record.{Entry}
use Rattle.forms.specs.declared.entry.LentEntry.{LentEntry}

abbrev pub entry_of : LentEntry → Entry
entry_of e = record { kind = e.kind; body = e.body.now }
