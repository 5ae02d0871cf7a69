use Rattle.std.proofs.Common.{ok_or, ap, sym, ◌∙◌}
use Rattle.toml_rows.specs.Rows.{row_of}
use Rattle.toml.specs.Data.{get_member}
use Rattle.tariff.specs.Faults.{bad_price}
use Rattle.tariff.specs.Reading.{price_at}
use Rattle.tariff.proofs.read.read_price.Goals as goal

pub returns-in-Some-2-clause-value : goal.returns-in-Some-2-clause-value
returns-in-Some-2-clause-value c depth ms is =
    let (d, says, at) = c.in-Some.ensures depth ms is in
    ap (λ n. price_at c.args.table c.args.class (get_member n ms)) (sym c.name.ensures) ∙ ap (price_at c.args.table c.args.class) at
    ∙ ap (λ o. ok_or o (bad_price c.args.table c.args.class)) (sym (c.in_ok-price-in-Some.ensures.value depth (row_of c.args.keys.now) d says) ∙ c.in-Some-2.is)

pub returns-in-None-2-clause-value : goal.returns-in-None-2-clause-value
returns-in-None-2-clause-value c depth ms is =
    let (d, says, at) = c.in-Some.ensures depth ms is in
    ap (λ n. price_at c.args.table c.args.class (get_member n ms)) (sym c.name.ensures) ∙ ap (price_at c.args.table c.args.class) at
    ∙ ap (λ o. ok_or o (bad_price c.args.table c.args.class)) (sym (c.in_ok-price-in-Some.ensures.value depth (row_of c.args.keys.now) d says) ∙ c.in-None-2.is)

pub returns-in-None-clause-value : goal.returns-in-None-clause-value
returns-in-None-clause-value c depth ms is =
    ap (λ n. price_at c.args.table c.args.class (get_member n ms)) (sym c.name.ensures)
    ∙ ap (price_at c.args.table c.args.class) (c.in-None.ensures depth ms is)
