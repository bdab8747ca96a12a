-- 7, a stray control byte, and then the entries decide. Assumes nothing.
use Rattle.std.proofs.Common.{◌<◌, sym, ap, length, arith, rules}
use Rattle.writer.proofs.Sheets.{entry-count}
use Rattle.writer.proofs.Numbers.{record-7, record-25, record-entries}
use Rattle.writer.proofs.check_record.Goals as goal

pub returns-then-row-ge-CHIP_COUNT : goal.returns-then-row-ge-CHIP_COUNT
returns-then-row-ge-CHIP_COUNT c =
    record-7 c.args.layout _ c.row-row.ensures c.if-row-ge-CHIP_COUNT.true

pub returns-then-is_stray_control : goal.returns-then-is_stray_control
returns-then-is_stray_control c =
    record-25 c.args.layout _ c.row-row.ensures c.if-row-ge-CHIP_COUNT.false c.control.ensures (sym c.if-is_stray_control.ensures)

pub check_entries-requires : goal.check_entries-requires
check_entries-requires c =
    let few : c.args.sheet.blocks < 256 = search rules in (
      omega (arith, ap length c.lent_entries.ensures, entry-count c.args.sheet.blocks c.args.sheet.bytes.now),
      omega (arith, c.header_length-start.ensures),
    )

pub returns : goal.returns
returns c =
    record-entries c.args.layout _ c.row-row.ensures c.if-row-ge-CHIP_COUNT.false c.control.ensures (sym c.if-is_stray_control.ensures)
    c.leaves_end.ensures c.header_length-start.ensures.0 c.lent_entries.ensures c.check_entries.ensures
