use Rattle.std.proofs.Common.{◌≡◌, ◌∙◌, ap, Err, rules}
use Rattle.toml_rows.specs.Rows.{row_of}
use Rattle.toml_rows.specs.Walking.{Says}
use Rattle.toml_rows.specs.declared.walk.Found.TheVariants as found
use Rattle.toml.specs.Data.{array}
use Rattle.tariff.specs.Reading.{tiers_of}
use Rattle.office_base.proofs.Results.{told_on}
use Rattle.tariff.specs.Faults.{tariff_flaw_of}
use Rattle.tariff.proofs.tier.tiers_of.Goals as goal

pub returns-in_err-tiers-in-Tables : goal.returns-in_err-tiers-in-Tables
returns-in_err-tiers-in-Tables c d says =
    let said : Says c.args.depth (row_of c.args.keys.now) (found.Tables c.in-Tables.last) d = rw c.in-Tables.is at says in
    let (ds, array_is, same) = said in
    let fault = c.in_err-tiers-in-Tables.field-0.0 in
    let is : c.from_residual-in_err-tiers-in-Tables.result ≡ Err fault = search rules in
    rw is (told_on (tariff_flaw_of fault) (tiers_of c.args.class (array ds)) (tiers_of c.args.class d) (λ flaw e. ap (tiers_of c.args.class) same ∙ e)
    (c.in_err-tiers-in-Tables.ensures c.args.depth ds array_is))

pub returns-in_ok-tiers-in-Tables : goal.returns-in_ok-tiers-in-Tables
returns-in_ok-tiers-in-Tables c d says =
    let said : Says c.args.depth (row_of c.args.keys.now) (found.Tables c.in-Tables.last) d = rw c.in-Tables.is at says in
    let (ds, array_is, same) = said in
    ap (tiers_of c.args.class) same ∙ c.in_ok-tiers-in-Tables.ensures c.args.depth ds array_is
