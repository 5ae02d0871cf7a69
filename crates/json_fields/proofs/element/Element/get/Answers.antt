use Rattle.std.proofs.Common.{◌≡◌, ◌∙◌, rules}
use Rattle.std.proofs.lemmas.Slice.Eq.{bytes_eq-Decides}
use Rattle.json_fields.specs.Elements.{data_of, fields_left}
use Rattle.json_fields.proofs.NameLemmas.{in_object, found_here, found_later}
use Rattle.json_fields.proofs.element.Element.get.Goals as goal

pub returns-then-eq : goal.returns-then-eq
returns-then-eq c =
    let name = c.args.name.now in
    let same : c.in-Some.key.now ≡ name = search (rules, bytes_eq-Decides) in
    found_here name c.in-Some.key.now (data_of c.in-Some.value) (fields_left c.next.new.self) (fields_left c.search.fields)
    c.in-Some.ensures.value same
    ∙ c.search.invariant ∙ in_object name (data_of c.args.self.now) (fields_left c.in_ok-fields.fields) c.in_ok-fields.ensures

pub search-preserved : goal.search-preserved
search-preserved c =
    let name = c.args.name.now in
    let other : c.in-Some.key.now ≡ name → ⊥ = search (rules, bytes_eq-Decides) in
    found_later name c.in-Some.key.now (data_of c.in-Some.value) (fields_left c.next.new.self) (fields_left c.search.fields)
    c.in-Some.ensures.value other
    ∙ c.search.invariant
