use Rattle.std.proofs.Common.{◌≤◌, ◌<◌, ℕ, sym, subst}
use Rattle.moments.specs.Time.{end_of_time}
use Rattle.moments.specs.Months.{months}
use Rattle.office_machine.proofs.Months.{month_fits}
use Rattle.office_machine.proofs.machine.Machine.closing_tariff.Goals as goal

pub returns-then-ms-end-clause-fits : goal.returns-then-ms-end-clause-fits
returns-then-ms-end-clause-fits c =
    subst (λ (end : ℕ). end ≤ end_of_time) (sym c.month_window-end.ensures.ends) (month_fits c.args.month
    (subst (λ (n : ℕ). n < months) c.number-number.ensures.number c.number-number.ensures.among))
