use Rattle.std.proofs.Common.{◌≡◌, ◌∙◌, ap, Option, Err, unwrap_or, rules}
use Rattle.toml.specs.Data.{Members, no_members}
use Rattle.toml_rows.specs.Rows.{row_of}
use Rattle.office_base.proofs.Results.{told_on}
use Rattle.tariff.specs.declared.read.Opened.TheVariants.{Inside, Own, Missing}
use Rattle.tariff.specs.Faults.{tariff_flaw_of}
use Rattle.tariff.specs.Opened.{IsOpened}
use Rattle.tariff.specs.Reading.{each_of, price_in, classes_of}
use Rattle.tariff.proofs.read.prices_opened.Goals as goal

pub returns-in_err-read_prices-in-Inside-clause-value : goal.returns-in_err-read_prices-in-Inside-clause-value
returns-in_err-read_prices-in-Inside-clause-value c o opened_is =
    let h : IsOpened (row_of c.args.document.now) (Inside c.in-Inside.number) o = rw c.in-Inside.is at opened_is in
    let (ms, is, same) = h in
    let read = λ (p : Option Members). each_of (price_in c.args.table (unwrap_or p no_members)) (classes_of c.args.table) in
    let fault = c.in_err-read_prices-in-Inside.field-0.0 in
    let err : c.from_residual.result ≡ Err fault = search rules in
    rw err (told_on (tariff_flaw_of fault) (each_of (price_in c.args.table ms) (classes_of c.args.table)) (read o) (λ flaw e. ap read same ∙ e)
    (c.in_err-read_prices-in-Inside.ensures.value 80 ms is))

pub returns-in_ok-read_prices-in-Inside-clause-value : goal.returns-in_ok-read_prices-in-Inside-clause-value
returns-in_ok-read_prices-in-Inside-clause-value c o opened_is =
    let h : IsOpened (row_of c.args.document.now) (Inside c.in-Inside.number) o = rw c.in-Inside.is at opened_is in
    let (ms, is, same) = h in
    ap (λ (p : Option Members). each_of (price_in c.args.table (unwrap_or p no_members)) (classes_of c.args.table)) same ∙ c.in_ok-read_prices-in-Inside.ensures.value 80 ms is

pub returns-in_err-read_prices-in-Own-clause-value : goal.returns-in_err-read_prices-in-Own-clause-value
returns-in_err-read_prices-in-Own-clause-value c o opened_is =
    let h : IsOpened (row_of c.args.document.now) (Own c.in-Own.keys) o = rw c.in-Own.is at opened_is in
    let (ms, is, same) = h in
    let read = λ (p : Option Members). each_of (price_in c.args.table (unwrap_or p no_members)) (classes_of c.args.table) in
    let fault = c.in_err-read_prices-in-Own.field-0.0 in
    let err : c.from_residual-in_err-read_prices-in-Own.result ≡ Err fault = search rules in
    rw err (told_on (tariff_flaw_of fault) (each_of (price_in c.args.table ms) (classes_of c.args.table)) (read o) (λ flaw e. ap read same ∙ e)
    (c.in_err-read_prices-in-Own.ensures.value 79 ms is))

pub returns-in_ok-read_prices-in-Own-clause-value : goal.returns-in_ok-read_prices-in-Own-clause-value
returns-in_ok-read_prices-in-Own-clause-value c o opened_is =
    let h : IsOpened (row_of c.args.document.now) (Own c.in-Own.keys) o = rw c.in-Own.is at opened_is in
    let (ms, is, same) = h in
    ap (λ (p : Option Members). each_of (price_in c.args.table (unwrap_or p no_members)) (classes_of c.args.table)) same ∙ c.in_ok-read_prices-in-Own.ensures.value 79 ms is

pub returns-in_err-read_prices-in-Missing-clause-value : goal.returns-in_err-read_prices-in-Missing-clause-value
returns-in_err-read_prices-in-Missing-clause-value c o opened_is =
    let h : IsOpened (row_of c.args.document.now) (Missing c.in-Missing.keys) o = rw c.in-Missing.is at opened_is in
    let (is, same) = h in
    let read = λ (p : Option Members). each_of (price_in c.args.table (unwrap_or p no_members)) (classes_of c.args.table) in
    let fault = c.in_err-read_prices-in-Missing.field-0.0 in
    let err : c.from_residual-in_err-read_prices-in-Missing.result ≡ Err fault = search rules in
    rw err (told_on (tariff_flaw_of fault) (each_of (price_in c.args.table no_members) (classes_of c.args.table)) (read o) (λ flaw e. ap read same ∙ e)
    (c.in_err-read_prices-in-Missing.ensures.value 79 no_members is))

pub returns-in_ok-read_prices-in-Missing-clause-value : goal.returns-in_ok-read_prices-in-Missing-clause-value
returns-in_ok-read_prices-in-Missing-clause-value c o opened_is =
    let h : IsOpened (row_of c.args.document.now) (Missing c.in-Missing.keys) o = rw c.in-Missing.is at opened_is in
    let (is, same) = h in
    ap (λ (p : Option Members). each_of (price_in c.args.table (unwrap_or p no_members)) (classes_of c.args.table)) same ∙ c.in_ok-read_prices-in-Missing.ensures.value 79 no_members is
