use Rattle.std.proofs.Common.{ap, ◌∙◌, sym, subst}
use Rattle.plain_office.specs.Charges.{in_force}
use Rattle.plain_office.proofs.Runs.{done, refused}
use Rattle.office_machine.specs.Once.{StandsFor}
use Rattle.forecast.specs.Telling.{ForecastView}
use Rattle.forecast.proofs.Shown.{tariffs_are, none_in_force}
use Rattle.forecast.proofs.forecast.Forecast.tariff_in.Goals as goal

pub returns-in-Ok-TariffShown : goal.returns-in-Ok-TariffShown
returns-in-Ok-TariffShown c = λ p stands.
    let stood = subst (λ (v : ForecastView). StandsFor v.office p) (sym c.self.view_is) stands in
    c.in_force.ensures ∙ ap (in_force c.args.month) c.as_slice.ensures ∙ ap (in_force c.args.month) (tariffs_are c.self.inside.until p _ c.answer.result (c.in-Ok-TariffShown.is ∙ ap done c.in-Ok-TariffShown.field-0-is) (c.answer.ensures.reply p stood))

pub returns-in-Err-NoTariff : goal.returns-in-Err-NoTariff
returns-in-Err-NoTariff c = λ p stands.
    let stood = subst (λ (v : ForecastView). StandsFor v.office p) (sym c.self.view_is) stands in
    none_in_force c.self.inside.until p c.args.month c.answer.result (c.in-Err-NoTariff.is ∙ ap refused c.in-Err-NoTariff.field-0-is) (c.answer.ensures.reply p stood)
