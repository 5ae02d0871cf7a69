use Rattle.std.proofs.Common.{◌∙◌}
use Rattle.forecast.proofs.Shown.{lines_are}
use Rattle.forecast.proofs.forecast.Forecast.lines.Goals as goal

pub returns : goal.returns
returns c = record {
  exact = λ outlook is.
      c.in_ok-lines.ensures
      ∙ lines_are c.args.self.now outlook is (c.requires.done outlook is) c.args.month c.requires.month c.in_ok-tariff.tariff (c.in_ok-tariff.ensures is.office is.stands) c.used_in.result
      (c.used_in.ensures is.office is.account is.stands is.there);
}
