use Rattle.std.proofs.Common.{◌≡◌, ◌++◌, ◌∷◌, [], ap, ◌∙◌}
use Rattle.toml_parser.specs.Strings.{Key, recursion_limit}
use Rattle.toml_parser.specs.Reading.{key_view}
use Rattle.toml.specs.Tables as spec
use Rattle.toml_rows.specs.Reading.{data_at}
use Rattle.toml_rows.specs.Documents.{definition_view}
use Rattle.toml_rows.proofs.EnterLemmas.{match_err}
use Rattle.toml_rows.proofs.LineLemmas.{define_pair, define_no_pair, define_std, define_no_std, define_array, define_no_array}
use Rattle.toml_rows.proofs.reading.define.Goals as goal

pub returns-in_err-put-in-Pair : goal.returns-in_err-put-in-Pair
returns-in_err-put-in-Pair c tables elements p holds leads =
    let key : Key = key_view c.args.key.now in
    let d = data_at recursion_limit c.in-Pair.text.now in
    let view : definition_view c.args.what ≡ spec.key_value d = ap definition_view c.in-Pair.is in
    match_err c.from_residual.result _ _ c.in_err-put-in-Pair.field-0.0 _ c.from_residual.ensures.1 (λ y e. e) λ refused.
    ap (λ w. spec.define (tables 0, p) (key, w)) view
    ∙ define_no_pair p key d (tables 0) (c.in_err-put-in-Pair.ensures recursion_limit tables elements p holds leads refused)

pub returns-in_err-table-in-Table : goal.returns-in_err-table-in-Table
returns-in_err-table-in-Table c tables elements p holds leads =
    let key : Key = key_view c.args.key.now in
    let view : definition_view c.args.what ≡ spec.std_table = ap definition_view c.in-Table.is in
    match_err c.from_residual-in_err-table-in-Table.result _ _ c.in_err-table-in-Table.field-0.0 _ c.from_residual-in_err-table-in-Table.ensures.1 (λ y e. e) λ refused.
    ap (λ w. spec.define (tables 0, p) (key, w)) view
    ∙ define_no_std p key (tables 0) (c.in_err-table-in-Table.ensures recursion_limit tables elements holds refused)

pub returns-in_err-element-in-Element : goal.returns-in_err-element-in-Element
returns-in_err-element-in-Element c tables elements p holds leads =
    let key : Key = key_view c.args.key.now in
    let view : definition_view c.args.what ≡ spec.array_table = ap definition_view c.in-Element.is in
    match_err c.from_residual-in_err-element-in-Element.result _ _ c.in_err-element-in-Element.field-0.0 _ c.from_residual-in_err-element-in-Element.ensures.1 (λ y e. e) λ refused.
    ap (λ w. spec.define (tables 0, p) (key, w)) view
    ∙ define_no_array p key (tables 0) (c.in_err-element-in-Element.ensures recursion_limit tables elements holds refused)

pub returns-in_ok-put-in-Pair : goal.returns-in_ok-put-in-Pair
returns-in_ok-put-in-Pair c tables elements p holds leads =
    let key : Key = key_view c.args.key.now in
    let d = data_at recursion_limit c.in-Pair.text.now in
    let view : definition_view c.args.what ≡ spec.key_value d = ap definition_view c.in-Pair.is in
    let e = (c.in_ok-put-in-Pair.ensures recursion_limit tables elements p holds leads).1 in
    record {
      tables = e.tables;
      elements = e.elements;
      path = p;
      holds = e.holds;
      leads = e.leads;
      is = ap (λ w. spec.define (tables 0, p) (key, w)) view ∙ define_pair p key d (tables 0) (e.tables 0) e.is;
    }

pub returns-in_ok-table-in-Table : goal.returns-in_ok-table-in-Table
returns-in_ok-table-in-Table c tables elements p holds leads =
    let key : Key = key_view c.args.key.now in
    let view : definition_view c.args.what ≡ spec.std_table = ap definition_view c.in-Table.is in
    let e = c.in_ok-table-in-Table.ensures recursion_limit tables elements holds in
    record {
      tables = e.tables;
      elements = e.elements;
      path = key.0 ++ key.1 ∷ [];
      holds = e.holds;
      leads = e.leads;
      is = ap (λ w. spec.define (tables 0, p) (key, w)) view ∙ define_std p key (tables 0) (e.tables 0) e.is;
    }

pub returns-in_ok-element-in-Element : goal.returns-in_ok-element-in-Element
returns-in_ok-element-in-Element c tables elements p holds leads =
    let key : Key = key_view c.args.key.now in
    let view : definition_view c.args.what ≡ spec.array_table = ap definition_view c.in-Element.is in
    let e = c.in_ok-element-in-Element.ensures recursion_limit tables elements holds in
    record {
      tables = e.tables;
      elements = e.elements;
      path = key.0 ++ key.1 ∷ [];
      holds = e.holds;
      leads = e.leads;
      is = ap (λ w. spec.define (tables 0, p) (key, w)) view ∙ define_array p key (tables 0) (e.tables 0) e.is;
    }
