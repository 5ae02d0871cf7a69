use Rattle.std.proofs.Common.{◌≡◌, ◌≤◌}
use Rattle.csv_sheet.specs.Sheets.{IsAtRowStart, bytes_written}
use Rattle.forecast.specs.Forecasts.{Outlook}
use Rattle.forecast.specs.Telling.{Foretells}
use Rattle.forecast_text.proofs.Texts.{MonthsAreLeft}
use Rattle.forecast_text.proofs.months.lines_text.Given as goal

abbrev pub invariant-loop-number : goal.invariant-loop-number
invariant-loop-number l = record {
  ready : IsAtRowStart l.sheet;
  inside : l.fn.first ≤ l.number;
  left : (outlook : Outlook) → Foretells l.fn.forecast outlook → MonthsAreLeft (bytes_written l.sheet) l.fn.first l.fn.last l.number outlook;
}
