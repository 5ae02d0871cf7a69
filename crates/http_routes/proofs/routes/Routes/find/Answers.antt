use Rattle.std.proofs.Common.{◌∙◌, sym, subst, refl}
use Rattle.route_table.specs.Tables.{Leads, LeadsNowhere}
use Rattle.http_routes.proofs.Leads.{not_text, not_found, found}
use Rattle.http_routes.proofs.routes.Routes.find.Goals as goal

pub returns-in-Err-clause-none : goal.returns-in-Err-clause-none
returns-in-Err-clause-none c = λ none. not_text _ c.in-Err.ensures.cases.0

pub returns-in-None-clause-none : goal.returns-in-None-clause-none
returns-in-None-clause-none c = λ none.
    not_found _ _ c.in-Ok.ensures.cases.0 (subst (λ table. LeadsNowhere table c.in-Ok.path.now) c.self.invariant (c.in-None.ensures.none refl))

pub returns-in-Some-clause-found : goal.returns-in-Some-clause-found
returns-in-Some-clause-found c =
    found _ _ _ _ _ c.in-Ok.ensures.cases.0 c.in-Ok.ensures.cases.1 (sym c.contains.ensures.value ∙ c.if-contains.false)
    (subst (λ table. Leads table c.in-Ok.path.now c.in-Some.found.value.now c.in-Some.found.parts) c.self.invariant c.in-Some.ensures.found)
    c.route_of.ensures
