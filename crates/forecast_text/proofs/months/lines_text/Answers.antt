use Rattle.std.proofs.Common.{◌≡◌, ◌∙◌, ◌+◌, ◌<◌, ℕ, List, Option, arith, ap, subst}
use Rattle.std.specs.Io.KnownBytes.{append_known}
use Rattle.csv_sheet.specs.Sheets.{bytes_written}
use Rattle.forecast_text.specs.Tables.{text_of_rows, month_rows}
use Rattle.forecast_text.proofs.Texts.{one_month}
use Rattle.forecast_text.proofs.months.lines_text.Goals as goal

pub loop-number-preserved : goal.loop-number-preserved
loop-number-preserved c = record {
  ready = c.in_ok-put_month.ensures.ready;
  inside = omega (arith, c.loop-number.invariant.inside);
  left = λ outlook foretells.
      let within : c.loop-number.number < c.args.last + 1 = omega (arith, c.loop-number-test.true, c.number-number-end.ensures.number) in
      let put : bytes_written c.put_month.new.sheet ≡ append_known (bytes_written c.loop-number.sheet) (text_of_rows (month_rows outlook.lines c.loop-number.number)) =
      c.in_ok-put_month.ensures.bytes outlook foretells
      ∙ ap (λ (month : ℕ). append_known (bytes_written c.loop-number.sheet) (text_of_rows (month_rows outlook.lines month))) c.numbered.ensures in
      one_month (bytes_written c.loop-number.sheet) (bytes_written c.put_month.new.sheet) c.args.first c.args.last c.loop-number.number outlook within
      (c.loop-number.invariant.left outlook foretells) put;
}
