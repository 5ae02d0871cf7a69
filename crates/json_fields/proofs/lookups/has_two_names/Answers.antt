use Rattle.std.proofs.Common.{◌≡◌, ◌<◌, length, nat_lt, sym, ap, ◌∙◌, arith, rules}
use Rattle.std.proofs.lemmas.Slice.Eq.{bytes_eq-Decides}
use Rattle.serde_json.specs.Data.{null, put}
use Rattle.json_fields.specs.Fields.{names_of}
use Rattle.json_fields.specs.Elements.{data_of, fields_left}
use Rattle.json_fields.proofs.NameLemmas.{names-put, names-put_again, two_names}
use Rattle.json_fields.proofs.lookups.has_two_names.Goals as goal

pub returns-then-ne : goal.returns-then-ne
returns-then-ne c =
    let first = c.in-Some.first.now in
    let name = c.in-Some-next.name.now in
    let rest = fields_left c.next-in-others.new.self in
    let value = data_of c.in-Some-next.field-0-1 in
    let counted = ap names_of c.in-Some.ensures.value ∙ names-put first (data_of c.in-Some.field-0-1) null (fields_left c.next.new.self)
    ∙ sym c.others.invariant in
    let apart : name ≡ first → ⊥ = search (rules, bytes_eq-Decides) in
    let other : first ≡ name → ⊥ = λ (same : first ≡ name). apart (sym same) in
    let same_len = ap length (counted ∙ ap (λ ms. names_of (put first null ms)) c.in-Some-next.ensures.value) in
    let long : 1 < length (names_of (fields_left c.args.fields)) =
    omega (arith, same_len, two_names first name null value rest other) in
    grind (arith, long)

pub others-preserved : goal.others-preserved
others-preserved c =
    let first = c.in-Some.first.now in
    let name = c.in-Some-next.name.now in
    let rest = fields_left c.next-in-others.new.self in
    let value = data_of c.in-Some-next.field-0-1 in
    let alike : name ≡ first = search (rules, bytes_eq-Decides) in
    let same : first ≡ name = sym alike in
    sym (names-put_again first null value rest)
    ∙ ap (λ k. names_of (put first null (put k value rest))) same
    ∙ ap (λ ms. names_of (put first null ms)) (sym c.in-Some-next.ensures.value) ∙ c.others.invariant

pub returns : goal.returns
returns c =
    let first = c.in-Some.first.now in
    let counted = ap names_of c.in-Some.ensures.value ∙ names-put first (data_of c.in-Some.field-0-1) null (fields_left c.next.new.self)
    ∙ sym c.others.invariant in
    sym (ap (λ names. nat_lt 1 (length names)) (counted ∙ ap (λ ms. names_of (put first null ms)) c.in_default-next.ensures.value))
