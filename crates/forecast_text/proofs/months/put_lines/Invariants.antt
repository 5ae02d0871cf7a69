use Rattle.std.proofs.Common.{◌≡◌, drop}
use Rattle.csv_sheet.specs.Sheets.{IsAtRowStart, bytes_written}
use Rattle.forecast_text.proofs.Texts.{and_lines}
use Rattle.forecast_text.proofs.months.put_lines.Given as goal

-- the lines that are left come after those that stand there
abbrev pub invariant-loop-line : goal.invariant-loop-line
invariant-loop-line l =
    IsAtRowStart l.sheet × (and_lines (bytes_written l.sheet) l.month (drop l.line-index l.lines) ≡ and_lines (bytes_written l.initial.sheet) l.month l.lines)
