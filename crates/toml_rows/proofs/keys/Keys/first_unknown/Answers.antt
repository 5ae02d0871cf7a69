use Rattle.std.proofs.Common.{◌≡◌, Some, None, ap, ◌∙◌, arith}
use Rattle.toml_rows.specs.Rows.{row_of}
use Rattle.toml_rows.specs.Walking.{knows, IsLeast}
use Rattle.toml_rows.proofs.WalkLemmas.{unknown_some, unknown_none}
use Rattle.toml_rows.proofs.keys.Keys.first_unknown.Goals as goal

pub returns-in-Some : goal.returns-in-Some
returns-in-Some c depth ms is =
    let row = row_of c.args.self.now in
    let known = knows c.args.known.now in
    let least : IsLeast row c.args.table known c.parts.part (Some c.in-Some.part) = rw c.in-Some.is at c.parts.invariant in
    let all : c.parts.part ≡ row.count = omega arith in
    ap Some c.get.ensures ∙ unknown_some known depth row c.args.table ms is c.parts.part c.in-Some.part all least

pub returns-in-None : goal.returns-in-None
returns-in-None c depth ms is =
    let row = row_of c.args.self.now in
    let known = knows c.args.known.now in
    let least : IsLeast row c.args.table known c.parts.part None = rw c.in-None.is at c.parts.invariant in
    let all : c.parts.part ≡ row.count = omega arith in
    unknown_none known depth row c.args.table ms is c.parts.part all least
