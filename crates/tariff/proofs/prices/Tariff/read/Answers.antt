use Rattle.std.proofs.Common.{◌≡◌, ◌∙◌, ap, Err, ok_or, rules}
use Rattle.office_base.specs.Results.{◌>>=◌}
use Rattle.office_base.proofs.Results.{told_on}
use Rattle.tariff.specs.Faults.{tariff_flaw_of, not_toml}
use Rattle.tariff.specs.Opened.{tariff_in}
use Rattle.tariff.specs.Reading.{document_of, tariff_of}
use Rattle.tariff.proofs.RowReading.{tariff_is}
use Rattle.tariff.proofs.prices.Tariff.read.Goals as goal

pub returns-in_err-document : goal.returns-in_err-document
returns-in_err-document c =
    let text = c.args.bytes.now in
    let fault = c.in_err-document.field-0.0 in
    let err : c.from_residual.result ≡ Err fault = search rules in
    rw err (record { exact = told_on (tariff_flaw_of fault) (ok_or (document_of text) not_toml) (tariff_of text) (λ flaw e. tariff_is text ∙ ap (λ r. r >>= tariff_in) e) c.in_err-document.ensures })

pub returns-in_err-tariff : goal.returns-in_err-tariff
returns-in_err-tariff c =
    let text = c.args.bytes.now in
    let (ms, is, at) = c.in_ok-document.ensures in
    let fault = c.in_err-tariff.field-0.0 in
    let err : c.from_residual-in_err-tariff.result ≡ Err fault = search rules in
    rw err (record { exact = told_on (tariff_flaw_of fault) (tariff_in ms) (tariff_of text) (λ flaw e. tariff_is text ∙ ap (λ r. r >>= tariff_in) at ∙ e) (c.in_err-tariff.ensures ms is) })

pub returns : goal.returns
returns c =
    let text = c.args.bytes.now in
    let (ms, is, at) = c.in_ok-document.ensures in
    record { exact = tariff_is text ∙ ap (λ r. r >>= tariff_in) at ∙ c.in_ok-tariff.ensures ms is }
