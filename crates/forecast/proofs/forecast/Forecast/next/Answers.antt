use Rattle.std.proofs.Common.{sym, subst, ◌∙◌}
use Rattle.forecast.specs.Telling.{ForecastView, Foretells}
use Rattle.forecast.proofs.Acting.{idle, idle_done, idle_on, tells, tells_on, waits, waits_on}
use Rattle.forecast.proofs.forecast.Forecast.next.Goals as goal

pub invariant_of-self : goal.invariant_of-self
invariant_of-self c = (
  waits_on _ c.self.invariant.0 c.self.inside.act c.self.invariant.1 c.apply.new.self c.apply.result c.apply.ensures.step c.apply.ensures.accepted c.in_default.field-0 c.in_default.is,
  c.self.invariant.1,
)

pub returns-in_default-clause-tells : goal.returns-in_default-clause-tells
returns-in_default-clause-tells c = λ outlook is.
    waits _ c.self.invariant.0 c.self.inside.act c.self.invariant.1 c.apply.new.self c.apply.result c.apply.ensures.step c.apply.ensures.accepted c.in_default.field-0 c.in_default.is outlook
    (subst (λ (v : ForecastView). Foretells v outlook) (sym c.self.view_is) is)

pub invariant_of-self-then-is_done : goal.invariant_of-self-then-is_done
invariant_of-self-then-is_done c =
    (tells_on _ c.self.invariant.0 c.self.inside.act c.self.invariant.1 c.apply.new.self c.apply.result c.apply.ensures.step c.apply.ensures.accepted c.in-Ok.reply c.in-Ok.is (sym c.is_done.ensures ∙ c.if-is_done.true), c.self.invariant.1)

pub returns-then-is_done-clause-tells : goal.returns-then-is_done-clause-tells
returns-then-is_done-clause-tells c = λ outlook is.
    tells _ c.self.invariant.0 c.self.inside.act c.self.invariant.1 c.apply.new.self c.apply.result c.apply.ensures.step c.apply.ensures.accepted c.in-Ok.reply c.in-Ok.is (sym c.is_done.ensures ∙ c.if-is_done.true) outlook
    (subst (λ (v : ForecastView). Foretells v outlook) (sym c.self.view_is) is)

pub invariant_of-self-2 : goal.invariant_of-self-2
invariant_of-self-2 c =
    (idle_on _ c.self.invariant.0 c.self.inside.act c.self.invariant.1 c.apply.new.self c.apply.result c.apply.ensures.step c.apply.ensures.accepted c.in-Ok.reply c.in-Ok.is (sym c.is_done.ensures ∙ c.if-is_done.false), c.self.invariant.1)

pub returns-clause-tells : goal.returns-clause-tells
returns-clause-tells c = λ outlook is.
    idle _ c.self.invariant.0 c.self.inside.act c.self.invariant.1 c.apply.new.self c.apply.result c.apply.ensures.step c.apply.ensures.accepted c.in-Ok.reply c.in-Ok.is (sym c.is_done.ensures ∙ c.if-is_done.false) outlook
    (subst (λ (v : ForecastView). Foretells v outlook) (sym c.self.view_is) is)

pub returns-clause-done : goal.returns-clause-done
returns-clause-done c = λ none.
    idle_done _ c.self.invariant.0 c.self.inside.act c.self.invariant.1 c.apply.new.self c.apply.result c.apply.ensures.step c.apply.ensures.accepted c.in-Ok.reply c.in-Ok.is (sym c.is_done.ensures ∙ c.if-is_done.false)
