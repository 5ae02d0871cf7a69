use Rattle.std.proofs.Common.{◌≡◌, ◌+◌, take, drop, Some}
use Rattle.office_types.specs.Reports.{charges}
use Rattle.csv_sheet.specs.Sheets.{IsAtRowStart, bytes_written}
use Rattle.usage_report.proofs.CsvRows.{rows_of}
use Rattle.usage_report.proofs.csv_text.report_csv.Given as goal

abbrev pub invariant-loop-line : goal.invariant-loop-line
invariant-loop-line l =
    IsAtRowStart l.sheet × (bytes_written l.sheet ≡ Some (rows_of (take l.line-index l.lines))) × (l.total + charges (drop l.line-index l.lines) ≡ charges l.lines)
