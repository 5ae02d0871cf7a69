use Rattle.std.proofs.Common.{◌++◌, string_bytes, ap}
use Rattle.toml_parser.specs.Reading.{path_view}
use Rattle.toml_rows.specs.Rows.{row_of}
use Rattle.toml_rows.specs.Reading.{data_at}
use Rattle.toml_rows.proofs.EnterLemmas.{match_err}
use Rattle.toml_rows.proofs.DefineLemmas.{put_all, put_no_path, put_no_key}
use Rattle.toml_rows.proofs.tables.put.Goals as goal

pub returns-in_err-inner : goal.returns-in_err-inner
returns-in_err-inner c depth tables elements p holds leads =
    let key = c.args.key.now in
    match_err c.from_residual.result _ _ c.in_err-inner.field-0.0 _ c.from_residual.ensures.1 (λ y e. e) λ refused.
    put_no_path (path_view key.path.items) (path_view c.deref.result.now) (string_bytes key.last) (string_bytes key.last) (ap path_view c.deref.ensures.value) (λ i. string_bytes key.last)
    p (tables 0) (data_at depth c.args.text.now) (c.in_err-inner.ensures depth tables elements p holds leads refused)

pub returns-in_err-define_value : goal.returns-in_err-define_value
returns-in_err-define_value c depth tables elements p holds leads =
    let key = c.args.key.now in
    let path = path_view c.deref.result.now in
    let e = (c.in_ok-inner.ensures depth tables elements p holds leads).1 in
    match_err c.from_residual-in_err-define_value.result _ _ c.in_err-define_value.field-0.0 _ c.from_residual-in_err-define_value.ensures.1 (λ y q. q) λ refused.
    put_no_key (path_view key.path.items) path (string_bytes key.last) c.as_str.result.now (ap path_view c.deref.ensures.value) c.as_str.ensures.value
    depth (row_of c.through_dots.new.keys) p c.in_ok-inner.inner (tables 0) (data_at depth c.args.text.now) e
    (c.in_err-define_value.ensures depth e.tables e.elements (p ++ path) e.holds e.leads refused)

pub returns : goal.returns
returns c depth tables elements p holds leads =
    let key = c.args.key.now in
    let path = path_view c.deref.result.now in
    let both = c.in_ok-inner.ensures depth tables elements p holds leads in
    let e = both.1 in
    put_all (path_view key.path.items) path (string_bytes key.last) c.as_str.result.now (ap path_view c.deref.ensures.value) c.as_str.ensures.value
    depth (row_of c.args.keys.now) (row_of c.through_dots.new.keys) (row_of c.define_value.new.keys) p c.args.table c.in_ok-inner.inner (tables 0)
    (data_at depth c.args.text.now) leads both.0 e
    (c.in_ok-define_value.ensures depth e.tables e.elements (p ++ path) e.holds e.leads)
