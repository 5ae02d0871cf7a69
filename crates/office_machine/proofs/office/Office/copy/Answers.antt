use Rattle.std.proofs.Common.{sym, subst}
use Rattle.office_machine.specs.Once.{OfficeView, StandsFor}
use Rattle.office_machine.proofs.Copied.{kept_are, whole_stands, whole_is_office}
use Rattle.office_machine.proofs.office.Office.copy.Goals as goal

pub invariant_of-result : goal.invariant_of-result
invariant_of-result c =
    whole_is_office _ c.in_ok-machine.machine c.in_ok-kept.kept.items c.in_ok-kept-2.kept c.in_ok-kept.ensures.same c.in_ok-kept-2.ensures c.self.invariant
    (kept_are _ c.in_ok-kept.kept.items c.self.invariant c.in_ok-kept.ensures.same) c.in_ok-machine.ensures.stands

pub returns-clause-stands : goal.returns-clause-stands
returns-clause-stands c = λ p stands.
    let stood = subst (λ (v : OfficeView). StandsFor v p) (sym c.self.view_is) stands in
    whole_stands _ c.in_ok-machine.machine c.in_ok-kept.kept.items c.in_ok-kept-2.kept c.in_ok-kept.ensures.same c.in_ok-kept-2.ensures p stood (c.in_ok-machine.ensures.stands p stood.records)

pub returns-clause-some : goal.returns-clause-some
returns-clause-some c =
    let is = c.self.invariant in (
      is.office,
      whole_stands _ c.in_ok-machine.machine c.in_ok-kept.kept.items c.in_ok-kept-2.kept c.in_ok-kept.ensures.same c.in_ok-kept-2.ensures is.office is.stands
          (c.in_ok-machine.ensures.stands is.office is.stands.records),
    )
