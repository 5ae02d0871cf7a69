use Rattle.std.proofs.Common.{rules}
use Rattle.toml_rows.specs.Rows.{row_of}
use Rattle.toml_rows.proofs.EnterLemmas.{match_err, header_found, header_stopped, header_new}
use Rattle.toml_rows.proofs.tables.enter_header.Goals as goal

pub returns-in_err-inner-in-Found : goal.returns-in_err-inner-in-Found
returns-in_err-inner-in-Found c depth tables elements p holds leads =
    let row = row_of c.args.keys.now in
    let tree = holds.tree in
    let has = c.in-Found.ensures holds.found.0 holds.found.1 tree.root in
    match_err c.from_residual.result _ _ c.in_err-inner-in-Found.field-0.0 _ c.from_residual.ensures.1 (λ y e. e) λ refused.
    header_stopped depth row tables elements p c.args.table holds leads c.args.name.now c.in-Found.part has
    (c.in_err-inner-in-Found.ensures refused)

pub returns-in_ok-inner-in-Found : goal.returns-in_ok-inner-in-Found
returns-in_ok-inner-in-Found c depth tables elements p holds leads =
    let row = row_of c.args.keys.now in
    let tree = holds.tree in
    let has = c.in-Found.ensures holds.found.0 holds.found.1 tree.root in
    let done = c.in_ok-inner-in-Found.ensures in
    header_found depth row tables elements p c.args.table holds leads c.args.name.now c.in-Found.part c.in_ok-inner-in-Found.inner has done.0 done.1

pub returns-in_ok-add-in-Free : goal.returns-in_ok-add-in-Free
returns-in_ok-add-in-Free c depth tables elements p holds leads =
    let row = row_of c.args.keys.now in
    let tree = holds.tree in
    let seat = c.in-Free.ensures holds.found.0 holds.found.1 tree.root in
    header_new depth row tables elements p c.args.table holds leads c.args.name.now (row_of c.add.new.self) c.in_ok-add-in-Free.field-0
    (c.in_ok-add-in-Free.ensures holds.found.0 holds.found.1 seat (search rules) tree.named) seat.nothing
