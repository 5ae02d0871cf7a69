use Rattle.std.proofs.Common.{◌<◌, rules, arith}
use Rattle.toml_rows.specs.Rows.{row_of}
use Rattle.toml_rows.proofs.RowLemmas.{row_add}
use Rattle.toml_rows.proofs.keys.Keys.add.Goals as goal

pub returns : goal.returns
returns c level found seat key same =
    let old = row_of c.args.self.now in
    let mid = row_of c.push.new.self in
    let pushes = c.in_ok-number.ensures same in
    let here = seat.at_it in
    let low = here.within in
    let grows = pushes.grows in
    let within : c.args.at < mid.count = omega (arith, grows.count) in
    row_add old mid (row_of c.set_link.new.self) c.args.table c.args.name.now c.args.what c.in_ok-number.number c.args.at c.args.high
    pushes (c.set_link.ensures within) level found seat (search rules)
