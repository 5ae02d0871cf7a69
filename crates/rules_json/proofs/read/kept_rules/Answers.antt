use Rattle.std.proofs.Common.{◌≡◌, ◌∙◌, ap, sym, refl, reverse, Ok, Err, ok_or, rules}
use Rattle.std.specs.declared.alloc.Global.{Global}
use Rattle.serde_json.specs.Data.{item, no_items}
use Rattle.serde_json.specs.Find.{as_array}
use Rattle.office_base.specs.Results.{◌>>=◌}
use Rattle.json_fields.specs.Elements.{data_of}
use Rattle.rules_json.specs.declared.fault.RulesFault.TheVariants.{WrongShape}
use Rattle.rules_json.specs.Faults.{RulesGiveBy}
use Rattle.rules_json.specs.Fields.{each, list_of}
use Rattle.rules_json.specs.Reading.{rule}
use Rattle.rules_json.proofs.ListLemmas.{passed_on}
use Rattle.rules_json.proofs.KeptLemmas.{kept_of, back, joined_up_to}
use Rattle.rules_json.proofs.read.kept_rules.Goals as goal

pub elements-init : goal.elements-init
elements-init c = (no_items, refl, ap Ok (sym (ap reverse c.new.ensures.items)))

pub elements-preserved : goal.elements-preserved
elements-preserved c =
    let more = c.elements.invariant.0 in (
      item (data_of c.in-Some.element) more,
      c.elements.invariant.1 ∙ c.in-Some.ensures.value more,
      joined_up_to 1_001 c.read.result c.elements.found c.join_up_to-found.result (rule c.args.field.now (data_of c.in-Some.element))
          (each rule c.args.field.now more) c.join_up_to-found.ensures c.read.ensures c.elements.invariant.2,
    )

pub returns-in_err-rules : goal.returns-in_err-rules
unfolding list_of
returns-in_err-rules c =
    let field = c.args.field.now in
    let more = c.elements.invariant.0 in
    let fault = c.in_err-rules.field-0.0 in
    let is : c.from_residual-in_err-rules.result ≡ Err fault = search rules in
    let found : RulesGiveBy (back {A = Global}) (Err fault) (kept_of 1_001 (each rule field more)) =
    rw c.in_err-rules.was at c.elements.invariant.2 in
    rw is (passed_on (back {A = Global}) (λ x. x) fault (kept_of 1_001 (each rule field more))
    (kept_of 1_001 (ok_or (as_array (data_of c.args.value.now)) (WrongShape field) >>= each rule field))
    (λ told refused. ap (λ r. kept_of 1_001 (r >>= each rule field)) c.in_ok-elements.ensures
    ∙ ap (λ items. kept_of 1_001 (each rule field items)) (c.elements.invariant.1 ∙ c.in_default.ensures.value more) ∙ refused)
    found)

pub returns : goal.returns
unfolding list_of
returns c =
    let field = c.args.field.now in
    let more = c.elements.invariant.0 in
    let found : kept_of 1_001 (each rule field more) ≡ Ok (back c.in_ok-rules.rules) = rw c.in_ok-rules.was at c.elements.invariant.2 in
    ap (λ r. kept_of 1_001 (r >>= each rule field)) c.in_ok-elements.ensures
    ∙ ap (λ items. kept_of 1_001 (each rule field items)) (c.elements.invariant.1 ∙ c.in_default.ensures.value more) ∙ found
    ∙ ap Ok (sym c.reverse.ensures.items)
