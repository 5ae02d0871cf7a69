use Rattle.std.proofs.Common.{rules}
use Rattle.toml_rows.specs.Rows.{row_of}
use Rattle.toml_rows.specs.Reading.{data_at}
use Rattle.toml_rows.proofs.DefineLemmas.{value_holds, value_refused, value_put}
use Rattle.toml_rows.proofs.tables.define_value.Goals as goal

pub returns-in-Found : goal.returns-in-Found
returns-in-Found c depth tables elements p holds leads refused =
    let mid = row_of c.push_value.new.self in
    let both = value_holds depth (row_of c.args.keys.now) mid c.args.text.now tables elements c.in_ok-value.ensures.row holds in
    let h = both.0 in
    let tree = h.tree in
    let has = c.in-Found.ensures h.found.0 h.found.1 tree.root in
    value_refused depth mid tables elements p c.args.table h (both.1 p c.args.table leads) c.args.name.now c.in-Found.field-0 (data_at depth c.args.text.now) has

pub returns-in_ok-add-in-Free : goal.returns-in_ok-add-in-Free
returns-in_ok-add-in-Free c depth tables elements p holds leads =
    let old = row_of c.args.keys.now in
    let mid = row_of c.push_value.new.self in
    let new = row_of c.add.new.self in
    let both = value_holds depth old mid c.args.text.now tables elements c.in_ok-value.ensures.row holds in
    let h = both.0 in
    let tree = h.tree in
    let seat = c.in-Free.ensures h.found.0 h.found.1 tree.root in
    let done = value_put depth mid tables elements p c.args.table h (both.1 p c.args.table leads) c.args.name.now new old c.args.text.now
    c.in_ok-value.value c.in_ok-add-in-Free.field-0 c.in_ok-value.ensures.row c.in_ok-value.ensures.number
    (c.in_ok-add-in-Free.ensures h.found.0 h.found.1 seat (search rules) tree.named) seat.nothing in
    ((λ q s there. done.0 q s (both.1 q s there)), done.1)
