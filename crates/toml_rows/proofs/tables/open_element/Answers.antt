use Rattle.std.proofs.Common.{◌++◌, [], string_bytes, ap}
use Rattle.toml_parser.specs.Reading.{path_view}
use Rattle.toml.specs.Tables.{array_table}
use Rattle.toml_rows.specs.Rows.{row_of}
use Rattle.toml_rows.specs.Tables.{at_root}
use Rattle.toml_rows.proofs.EnterLemmas.{match_err}
use Rattle.toml_rows.proofs.DefineLemmas.{open_all, open_no_path, open_no_key}
use Rattle.toml_rows.proofs.tables.open_element.Goals as goal

pub returns-in_err-table : goal.returns-in_err-table
returns-in_err-table c depth tables elements holds =
    let key = c.args.key.now in
    match_err c.from_residual.result _ _ c.in_err-table.field-0.0 _ c.from_residual.ensures.1 (λ y e. e) λ refused.
    open_no_path (path_view key.path.items) (path_view c.deref.result.now) (string_bytes key.last) (string_bytes key.last) (ap path_view c.deref.ensures.value) (λ i. string_bytes key.last)
    (tables 0) array_table (c.in_err-table.ensures depth tables elements [] holds at_root refused)

pub returns-in_err-opened : goal.returns-in_err-opened
returns-in_err-opened c depth tables elements holds =
    let key = c.args.key.now in
    let path = path_view c.deref.result.now in
    let e = (c.in_ok-table.ensures depth tables elements [] holds at_root).1 in
    match_err c.from_residual-in_err-opened.result _ _ c.in_err-opened.field-0.0 _ c.from_residual-in_err-opened.ensures.1 (λ y q. q) λ refused.
    open_no_key (path_view key.path.items) path (string_bytes key.last) c.as_str.result.now (ap path_view c.deref.ensures.value) c.as_str.ensures.value
    depth (row_of c.through_header.new.keys) c.in_ok-table.table (tables 0) array_table e
    (c.in_err-opened.ensures depth e.tables e.elements ([] ++ path) e.holds e.leads refused)

pub returns : goal.returns
returns c depth tables elements holds =
    let key = c.args.key.now in
    let path = path_view c.deref.result.now in
    let e = (c.in_ok-table.ensures depth tables elements [] holds at_root).1 in
    open_all (path_view key.path.items) path (string_bytes key.last) c.as_str.result.now (ap path_view c.deref.ensures.value) c.as_str.ensures.value
    depth (row_of c.through_header.new.keys) (row_of c.define_element.new.keys) c.in_ok-table.table c.in_ok-opened.opened (tables 0) array_table e
    (c.in_ok-opened.ensures depth e.tables e.elements ([] ++ path) e.holds e.leads)
