use Rattle.std.proofs.Common.{ap, ◌∙◌, sym}
use Rattle.std.specs.Prelude.{Option}
use Rattle.tariff.specs.Prices.{Prices}
use Rattle.plain_office.specs.Charges.{kept_or, in_force}
use Rattle.office_machine.specs.AnswerParts.{closed_at}
use Rattle.office_machine.proofs.Offices.{shows_prices}
use Rattle.office_machine.proofs.Seen.{seen_stands}
use Rattle.office_machine.proofs.machine.Machine.tariff_for.Goals as goal

pub returns-in-Some : goal.returns-in-Some
returns-in-Some c = λ p stands.
    let stood = seen_stands c.self.view_is stands in
    let found = ap (closed_at c.args.month) (sym c.deref.ensures.value) ∙ sym c.in-Some.ensures in
    sym (shows_prices _ p stood c.args.month ∙ ap (λ (o : Option Prices). kept_or o (in_force c.args.month c.self.inside.tariffs.items)) found)

pub returns-in-None : goal.returns-in-None
returns-in-None c = λ p stands.
    let stood = seen_stands c.self.view_is stands in
    let none = ap (closed_at c.args.month) (sym c.deref.ensures.value) ∙ sym c.in-None.ensures in
    c.in_force.ensures ∙ ap (in_force c.args.month) c.deref-in-None.ensures.value
    ∙ sym (shows_prices _ p stood c.args.month ∙ ap (λ (o : Option Prices). kept_or o (in_force c.args.month c.self.inside.tariffs.items)) none)
