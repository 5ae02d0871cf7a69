use Rattle.std.proofs.Common.{sym, subst, Option, unwrap_or}
use Rattle.toml.specs.Data.{Members, no_members}
use Rattle.toml_rows.specs.Rows.{row_of}
use Rattle.tariff.specs.declared.read.Opened.TheVariants.{Inside, Own, Missing}
use Rattle.tariff.specs.Faults.{TariffGives}
use Rattle.tariff.specs.Opened.{IsOpened}
use Rattle.tariff.specs.Reading.{with_classes}
use Rattle.tariff.proofs.read.check_opened.Goals as goal

pub returns-in-Inside : goal.returns-in-Inside
returns-in-Inside c o opened_is =
    let h : IsOpened (row_of c.args.document.now) (Inside c.in-Inside.number) o = rw c.in-Inside.is at opened_is in
    let P : Option Members → Type 0 = λ p. TariffGives (λ u. unwrap_or p no_members) c.check_classes.result (with_classes c.args.table (unwrap_or p no_members)) in
    let (ms, is, same) = h in
    subst P (sym same) (c.check_classes.ensures 80 ms is)

pub returns-in-Own : goal.returns-in-Own
returns-in-Own c o opened_is =
    let h : IsOpened (row_of c.args.document.now) (Own c.in-Own.keys) o = rw c.in-Own.is at opened_is in
    let P : Option Members → Type 0 = λ p. TariffGives (λ u. unwrap_or p no_members) c.check_classes-in-Own.result (with_classes c.args.table (unwrap_or p no_members)) in
    let (ms, is, same) = h in
    subst P (sym same) (c.check_classes-in-Own.ensures 79 ms is)

pub returns-in-Missing : goal.returns-in-Missing
returns-in-Missing c o opened_is =
    let h : IsOpened (row_of c.args.document.now) (Missing c.in-Missing.keys) o = rw c.in-Missing.is at opened_is in
    let P : Option Members → Type 0 = λ p. TariffGives (λ u. unwrap_or p no_members) c.check_classes-in-Missing.result (with_classes c.args.table (unwrap_or p no_members)) in
    let (is, same) = h in
    subst P (sym same) (c.check_classes-in-Missing.ensures 79 no_members is)
