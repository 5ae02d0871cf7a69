use Rattle.std.proofs.Common.{◌≡◌, ◌∙◌, sym, ap, subst, List, Result, Ok, Err, arith, rules}
use Rattle.std.proofs.lemmas.List.{length-map}
use Rattle.toml.specs.Data.{Data, array, table}
use Rattle.toml.specs.Tables.{close}
use Rattle.toml_rows.specs.Walking.{items_of, tables_of}
use Rattle.office_base.specs.Results.{◌>>=◌}
use Rattle.tariff.specs.declared.tiers.Tier.{Tier}
use Rattle.tariff.specs.Faults.{TariffFlaw, TariffGives}
use Rattle.tariff.specs.Reading.{tiers_said, in_range, tiers_of}
use Rattle.tariff.proofs.ManyTiers.{too_many}
use Rattle.office_base.proofs.Results.{told_on}
use Rattle.tariff.specs.Faults.{tariff_flaw_of}
use Rattle.tariff.proofs.tier.tiers_of_tables.Goals as goal

pub returns-in_err-tiers : goal.returns-in_err-tiers
returns-in_err-tiers c depth ds array_is =
    let (tables, before, holds, same) = c.in_ok-numbers.ensures depth ds array_is in
    let fault = c.in_err-tiers.field-0.0 in
    let is : c.from_residual-in_err-tiers.result ≡ Err fault = search rules in
    let all : tiers_said c.args.class ds ≡ tiers_said c.args.class (items_of (tables_of tables c.deref.result.now)) =
    ap (tiers_said c.args.class) (same ∙ ap (λ ts. items_of (tables_of tables ts)) (sym c.deref.ensures.value)) in
    rw is (told_on (tariff_flaw_of fault) (tiers_said c.args.class (items_of (tables_of tables c.deref.result.now))) (tiers_said c.args.class ds >>= in_range c.args.class) (λ flaw e. ap (λ r. r >>= in_range c.args.class) (all ∙ e)) (c.in_err-tiers.ensures depth tables before holds))

pub returns : goal.returns
returns c depth ds array_is =
    let (tables, before, holds, same) = c.in_ok-numbers.ensures depth ds array_is in
    let all : tiers_said c.args.class ds ≡ Ok c.in_ok-tiers.tiers.items =
    ap (tiers_said c.args.class) (same ∙ ap (λ ts. items_of (tables_of tables ts)) (sym c.deref.ensures.value)) ∙ c.in_ok-tiers.ensures depth tables before holds in
    let P : Result (List Tier) TariffFlaw → Type 0 = λ r. TariffGives (λ t. t) c.in_range.result (r >>= in_range c.args.class) in
    subst P (sym all) c.in_range.ensures

pub returns-then-len-gt-MOST_TIERS : goal.returns-then-len-gt-MOST_TIERS
returns-then-len-gt-MOST_TIERS c depth ds array_is =
    let (tables, before, holds, same) = c.in_ok-numbers.ensures depth ds array_is in
    let read : List Data = tables_of tables c.in_ok-numbers.numbers.items in
    let m = length-map c.in_ok-numbers.numbers.items (λ t. table (close (tables t))) in
    ap (λ is. tiers_of c.args.class (array is)) same ∙ too_many c.args.class read (omega (arith, m, c.len.ensures, c.if-len-gt-MOST_TIERS.true))
