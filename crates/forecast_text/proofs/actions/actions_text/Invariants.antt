use Rattle.std.proofs.Common.{◌≡◌}
use Rattle.csv_sheet.specs.Sheets.{IsAtRowStart, bytes_written}
use Rattle.forecast.specs.Forecasts.{Outlook}
use Rattle.forecast.specs.Telling.{Foretells}
use Rattle.forecast_text.proofs.Texts.{AreLeft}
use Rattle.forecast_text.proofs.actions.actions_text.Given as goal

abbrev pub invariant-telling : goal.invariant-telling
invariant-telling l = record {
  ready : IsAtRowStart l.sheet;
  first : l.forecast.first ≡ l.fn.forecast.first;
  left : (outlook : Outlook) → Foretells l.fn.forecast outlook → AreLeft (bytes_written l.sheet) l.forecast outlook;
}
