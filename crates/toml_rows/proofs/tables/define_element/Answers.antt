use Rattle.std.proofs.Common.{◌≡◌, refl, arith, rules, sym, ◌∙◌}
use Rattle.toml_rows.specs.Rows.{row_of, HasKey}
use Rattle.toml_rows.proofs.ChangeLemmas.{new_key}
use Rattle.toml_rows.proofs.DefineLemmas.{element_new, element_found, element_refused}
use Rattle.toml_rows.proofs.tables.define_element.Goals as goal

pub returns-in_ok-next_element-in-Tables : goal.returns-in_ok-next_element-in-Tables
returns-in_ok-next_element-in-Tables c depth tables elements p holds leads =
    let row = row_of c.args.keys.now in
    let tree = holds.tree in
    let has = c.in-Found.ensures holds.found.0 holds.found.1 tree.root in
    element_found depth row tables elements p c.args.table holds leads c.args.name.now (row_of c.next_element.new.keys) c.in-Found.part
    c.in-Tables.last c.in_ok-next_element-in-Tables.field-0 has (sym c.what.ensures ∙ c.in-Tables.is)
    (c.in_ok-next_element-in-Tables.ensures c.args.table c.args.name.now has tree.named)

pub returns-in_default : goal.returns-in_default
returns-in_default c depth tables elements p holds leads refused =
    let row = row_of c.args.keys.now in
    let tree = holds.tree in
    let has = c.in-Found.ensures holds.found.0 holds.found.1 tree.root in
    element_refused depth row tables elements p c.args.table holds leads c.args.name.now c.in-Found.part has
    (λ l is. c.in_default.not-Tables l (c.what.ensures ∙ is))

pub returns-in_ok-next_element-in-Free : goal.returns-in_ok-next_element-in-Free
returns-in_ok-next_element-in-Free c depth tables elements p holds leads =
    let row = row_of c.args.keys.now in
    let mid = row_of c.add.new.self in
    let tree = holds.tree in
    let part = c.in_ok-part-in-Free.part in
    let seat = c.in-Free.ensures holds.found.0 holds.found.1 tree.root in
    let adds = c.in_ok-part-in-Free.ensures holds.found.0 holds.found.1 seat (search rules) tree.named in
    let grows = adds.grows in
    let here = new_key row mid c.args.table c.args.name.now _ grows refl in
    let has : HasKey mid part c.args.table c.args.name.now = let number : part ≡ row.count = adds.number in rw number here in
    let named : mid.named ≡ mid.count = let n = tree.named in omega (arith, grows.named, grows.count) in
    element_new depth row mid (row_of c.next_element-in-Free.new.keys) tables elements p c.args.table holds leads c.args.name.now part
    c.in_ok-next_element-in-Free.field-0 adds seat.nothing
    (c.in_ok-next_element-in-Free.ensures c.args.table c.args.name.now has named)
