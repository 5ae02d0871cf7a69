use Rattle.std.proofs.Common.{◌≡◌, ℕ, List, Bool, true, false, option_map, option_and_then, map, not, refl, sym, ap, ◌∙◌, rules}
use Rattle.std.specs.List.{find}
use Rattle.office_base.specs.Texts.{is_among}
use Rattle.serde_json.specs.Data.{Members}
use Rattle.json_fields.specs.Fields.{names_of}
use Rattle.json_fields.specs.Names.{earlier}
use Rattle.json_fields.specs.Nodes.{values_of}
use Rattle.json_fields.specs.Elements.{fields_left}
use Rattle.json_fields.proofs.NameLemmas.{in_order-from, find-failing, find-passing, earlier-none, earlier-assoc}
use Rattle.json_fields.proofs.element.Element.first_unknown.Goals as goal

pub names-init : goal.names-init
names-init c = refl

pub names-preserved-then-not-is_known : goal.names-preserved-then-not-is_known
names-preserved-then-not-is_known c =
    let unknown : List ℕ → Bool = λ name. not (is_among (map (λ k. k.now) c.args.known.now) name) in
    let found : Members → _ = λ ms. find unknown (names_of ms) in
    let first = option_map (λ n. n.now) c.names.first in
    let name = c.in-Some.name.now in
    let left = c.next.new.self in
    let passes : unknown name ≡ true = search rules in
    ap (λ f. earlier f (found (fields_left left))) c.earlier.ensures
    ∙ earlier-assoc first name (found (fields_left left))
    ∙ ap (earlier first) (sym (ap found c.in-Some.ensures.value
    ∙ find-passing unknown name _ (fields_left left) (in_order-from left.left (values_of left.nodes.now)) passes))
    ∙ c.names.invariant

pub names-preserved : goal.names-preserved
names-preserved c =
    let unknown : List ℕ → Bool = λ name. not (is_among (map (λ k. k.now) c.args.known.now) name) in
    let found : Members → _ = λ ms. find unknown (names_of ms) in
    let first = option_map (λ n. n.now) c.names.first in
    let name = c.in-Some.name.now in
    let fails : unknown name ≡ false = search rules in
    ap (earlier first) (sym (ap found c.in-Some.ensures.value ∙ find-failing unknown name _ (fields_left c.next.new.self) fails))
    ∙ c.names.invariant

pub returns : goal.returns
returns c =
    let unknown : List ℕ → Bool = λ name. not (is_among (map (λ k. k.now) c.args.known.now) name) in
    let first = option_map (λ n. n.now) c.names.first in
    sym (earlier-none first)
    ∙ ap (λ ms. earlier first (find unknown (names_of ms))) (sym c.in_default.ensures.value)
    ∙ c.names.invariant ∙ ap (option_and_then (λ ms. find unknown (names_of ms))) c.in_ok-fields.ensures
