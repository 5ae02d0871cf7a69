use Rattle.std.proofs.Common.{subst, arith}
use Rattle.route_table.specs.Patterns.{pattern_in}
use Rattle.route_table.specs.Tables.{LeadsNowhere}
use Rattle.route_table.proofs.Answered.{placed, leads_at, only_at, not_found, offset_fits}
use Rattle.route_table.proofs.table.Table.find.Goals as goal

pub bounds-self-inside-place : goal.bounds-self-inside-place
bounds-self-inside-place g c =
    (placed _ _ _ _ _ _ _ c.self.invariant (λ i. omega (arith, c.type_inv.path i)) c.utf8.path c.in-Ok.ensures.path c.in-Ok.ensures.found).within

pub offset_bounds-self-inside-place : goal.offset_bounds-self-inside-place
offset_bounds-self-inside-place g c =
    let is = placed _ _ _ _ _ _ _ c.self.invariant (λ i. omega (arith, c.type_inv.path i)) c.utf8.path c.in-Ok.ensures.path c.in-Ok.ensures.found in
    offset_fits _ _ _ is.within c.self.told.1

pub of-requires : goal.of-requires
of-requires g c = record {
  texts = (placed _ _ _ _ _ _ _ c.self.invariant (λ i. omega (arith, c.type_inv.path i)) c.utf8.path c.in-Ok.ensures.path c.in-Ok.ensures.found).texts;
}

pub returns-in-Ok-clause-found : goal.returns-in-Ok-clause-found
returns-in-Ok-clause-found g c =
    let is = placed _ _ _ _ _ _ _ c.self.invariant (λ i. omega (arith, c.type_inv.path i)) c.utf8.path c.in-Ok.ensures.path c.in-Ok.ensures.found in
    leads_at (λ row. pattern_in row.0.now) (λ row. row.1) c.self.inside.rows.now _ _ _ _ _ _ c.self.view_is c.of.ensures is

pub returns-in-Ok-clause-only : goal.returns-in-Ok-clause-only
returns-in-Ok-clause-only g c =
    let is = placed _ _ _ _ _ _ _ c.self.invariant (λ i. omega (arith, c.type_inv.path i)) c.utf8.path c.in-Ok.ensures.path c.in-Ok.ensures.found in
    only_at (λ row. pattern_in row.0.now) (λ row. row.1) c.self.inside.rows.now _ _ _ _ _ _ c.self.view_is c.of.ensures c.self.invariant.disjoint is

pub returns-in-Err-clause-none : goal.returns-in-Err-clause-none
returns-in-Err-clause-none g c = λ none.
    subst (λ rows. LeadsNowhere rows c.args.path.now) c.self.view_is (not_found _ _ c.self.invariant c.args.path.now c.in-Err.ensures.missing)
