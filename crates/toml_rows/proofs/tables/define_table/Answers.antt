use Rattle.std.proofs.Common.{rules, sym, ◌∙◌}
use Rattle.toml_rows.specs.Rows.{row_of}
use Rattle.toml_rows.proofs.DefineLemmas.{table_new, table_found, table_refused}
use Rattle.toml_rows.proofs.tables.define_table.Goals as goal

pub returns-in-Implicit : goal.returns-in-Implicit
returns-in-Implicit c depth tables elements p holds leads =
    let row = row_of c.args.keys.now in
    let tree = holds.tree in
    let has = c.in-Found.ensures holds.found.0 holds.found.1 tree.root in
    table_found depth row tables elements p c.args.table holds leads c.args.name.now (row_of c.set.new.self) c.in-Found.part has
    (sym c.what.ensures ∙ c.in-Implicit.is) (c.set.ensures has.within)

pub returns-in_default : goal.returns-in_default
returns-in_default c depth tables elements p holds leads refused =
    let row = row_of c.args.keys.now in
    let tree = holds.tree in
    let has = c.in-Found.ensures holds.found.0 holds.found.1 tree.root in
    table_refused depth row tables elements p c.args.table holds leads c.args.name.now c.in-Found.part has
    (λ is. c.in_default.not-Implicit (c.what.ensures ∙ is))

pub returns-in_ok-add-in-Free : goal.returns-in_ok-add-in-Free
returns-in_ok-add-in-Free c depth tables elements p holds leads =
    let row = row_of c.args.keys.now in
    let tree = holds.tree in
    let seat = c.in-Free.ensures holds.found.0 holds.found.1 tree.root in
    table_new depth row tables elements p c.args.table holds leads c.args.name.now (row_of c.add.new.self) c.in_ok-add-in-Free.field-0
    (c.in_ok-add-in-Free.ensures holds.found.0 holds.found.1 seat (search rules) tree.named) seat.nothing
