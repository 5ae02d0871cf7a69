use Rattle.std.proofs.Common.{◌<◌, arith}
use Rattle.toml_rows.specs.Rows.{row_of}
use Rattle.toml_rows.proofs.DefineLemmas.{row_next}
use Rattle.toml_rows.proofs.tables.next_element.Goals as goal

pub returns : goal.returns
returns c t k has named =
    let old = row_of c.args.keys.now in
    let mid = row_of c.push.new.self in
    let low = has.within in
    let pushes = c.in_ok-element.ensures named in
    let grows = pushes.grows in
    let within : c.args.part < mid.count = omega (arith, grows.count) in
    row_next old mid (row_of c.set.new.self) c.args.part c.args.before c.in_ok-element.element t k has pushes (c.set.ensures within) (omega arith)
