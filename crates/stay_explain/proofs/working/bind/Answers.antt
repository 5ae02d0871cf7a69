use Rattle.std.proofs.Common.{◌∙◌, sym, rules, arith}
use Rattle.std.specs.Prelude.{vec_len}
use Rattle.std.proofs.lemmas.Bool.{eqb-true, eqb-false}
use Rattle.stay_explain.proofs.Bindings.{none_bound, some_bound}
use Rattle.stay_explain.proofs.working.bind.Goals as goal

pub returns : goal.returns
returns c =
    let pages = c.args.pages in
    some_bound pages.items c.remove-first.new.self.items c.remove-first.result c.reserve_exact.new.self.items c.add_rows.new.text.items
    (omega (arith, pages.ok.0, eqb-false (vec_len pages) 0 (sym c.is_empty.ensures ∙ c.if-is_empty.false)))
    c.remove-first.ensures.value c.remove-first.ensures.items (c.reserve_exact.ensures.items ∙ c.in_ok-text.ensures)
    (search rules)

pub returns-then-is_empty : goal.returns-then-is_empty
returns-then-is_empty c =
    let pages = c.args.pages in
    none_bound pages.items c.in_ok-header.header.items
    (omega (arith, pages.ok.0, eqb-true (vec_len pages) 0 (sym c.is_empty.ensures ∙ c.if-is_empty.true))) c.in_ok-header.ensures
