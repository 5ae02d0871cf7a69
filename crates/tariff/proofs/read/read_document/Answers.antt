use Rattle.std.proofs.Common.{◌∙◌, sym, ap, Some, None}
use Rattle.toml.specs.Parse.{parse_document}
use Rattle.toml_rows.specs.Documents.{IsDocument}
use Rattle.tariff.specs.Faults.{not_toml}
use Rattle.tariff.proofs.DocumentLemmas.{document_is, no_document}
use Rattle.tariff.proofs.read.read_document.Goals as goal

pub returns-in_default : goal.returns-in_default
returns-in_default c = no_document c.args.bytes.now not_toml (λ utf8. absurd (c.in_default.ensures.cases.0 utf8))

pub returns-in-Some : goal.returns-in-Some
returns-in-Some c =
    let found : IsDocument c.in-Ok.text.now (Some c.in-Some.keys) = rw c.in-Some.is at c.in-Ok-read.ensures in
    let (ms, is, at) = found in
    (ms, is, document_is c.args.bytes.now ms not_toml c.in-Ok.ensures.cases.1 (ap parse_document (sym c.in-Ok.ensures.cases.0) ∙ at))

pub returns-in-None : goal.returns-in-None
returns-in-None c =
    let found : IsDocument c.in-Ok.text.now None = rw c.in-None.is at c.in-Ok-read.ensures in
    no_document c.args.bytes.now not_toml (λ utf8. ap parse_document (sym c.in-Ok.ensures.cases.0) ∙ found)
