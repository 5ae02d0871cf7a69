use Rattle.std.proofs.Common.{◌≡◌, ◌∙◌, sym, ap, Err, rules}
use Rattle.toml.specs.Data.{get_member}
use Rattle.tariff.specs.Reading.{tiers_of, tiers_at, tiers_in}
use Rattle.office_base.proofs.Results.{told_on}
use Rattle.tariff.specs.Faults.{tariff_flaw_of}
use Rattle.tariff.proofs.read.read_tiers.Goals as goal

pub returns-in_err-tiers-in-Some : goal.returns-in_err-tiers-in-Some
returns-in_err-tiers-in-Some c ms is =
    let (d, says, at) = c.in-Some.ensures c.args.depth ms is in
    let named : tiers_in ms c.args.class ≡ tiers_of c.args.class d =
    ap (λ n. tiers_at c.args.class (get_member n ms)) (sym c.name.ensures) ∙ ap (tiers_at c.args.class) at in
    let fault = c.in_err-tiers-in-Some.field-0.0 in
    let err : c.from_residual.result ≡ Err fault = search rules in
    rw err (told_on (tariff_flaw_of fault) (tiers_of c.args.class d) (tiers_in ms c.args.class) (λ flaw e. named ∙ e) (c.in_err-tiers-in-Some.ensures d says))

pub returns-in_ok-tiers-in-Some : goal.returns-in_ok-tiers-in-Some
returns-in_ok-tiers-in-Some c ms is =
    let (d, says, at) = c.in-Some.ensures c.args.depth ms is in
    ap (λ n. tiers_at c.args.class (get_member n ms)) (sym c.name.ensures) ∙ ap (tiers_at c.args.class) at
    ∙ c.in_ok-tiers-in-Some.ensures d says

pub returns-in-None : goal.returns-in-None
returns-in-None c ms is =
    ap (λ n. tiers_at c.args.class (get_member n ms)) (sym c.name.ensures)
    ∙ ap (tiers_at c.args.class) (c.in-None.ensures c.args.depth ms is)
