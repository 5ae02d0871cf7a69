use Rattle.std.proofs.Common.{true, false, ap, ◌∙◌}
use Rattle.serde_json.specs.Read.{number_of, number_from}
use Rattle.json_fields.proofs.NumberLemmas.{below_zero, from_zero_on}
use Rattle.json_fields.proofs.number.number.Goals as goal

pub returns-in-Some : goal.returns-in-Some
returns-in-Some c =
    let text = c.as_bytes-bytes.result.now in
    let digits = c.in-Some.digits.now in
    c.with_sign.ensures ∙ ap (number_from true) c.scan.ensures.parts
    ∙ below_zero text digits c.in-Some.ensures.cases.0 c.in-Some.ensures.cases.1 ∙ ap number_of c.as_bytes-bytes.ensures.value

pub returns-in-None : goal.returns-in-None
returns-in-None c =
    let text = c.as_bytes-bytes.result.now in
    c.with_sign-in-None.ensures ∙ ap (number_from false) c.scan-in-None.ensures.parts
    ∙ from_zero_on text c.in-None.ensures.cases ∙ ap number_of c.as_bytes-bytes.ensures.value
