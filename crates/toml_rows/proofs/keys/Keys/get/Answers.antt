use Rattle.toml_rows.specs.Rows.{row_of}
use Rattle.toml_rows.proofs.WalkLemmas.{get_found, get_free}
use Rattle.toml_rows.proofs.keys.Keys.get.Goals as goal

pub returns-in-Found : goal.returns-in-Found
returns-in-Found c depth ms is =
    let h = is.holds in
    let tree = h.tree in
    let has = c.in-Found.ensures h.found.0 h.found.1 tree.root in
    get_found depth (row_of c.args.self.now) c.args.table ms is c.args.name.now c.in-Found.part has c.found.result c.found.ensures

pub returns-in-Free : goal.returns-in-Free
returns-in-Free c depth ms is =
    let h = is.holds in
    let tree = h.tree in
    let seat = c.in-Free.ensures h.found.0 h.found.1 tree.root in
    get_free depth (row_of c.args.self.now) c.args.table ms is c.args.name.now seat.nothing
