use Rattle.std.proofs.Common.{Some, None, refl, arith}
use Rattle.toml_rows.specs.Rows.{row_of}
use Rattle.toml_rows.specs.Walking.{knows, IsBefore, IsUnknown, IsLeast}
use Rattle.toml_rows.proofs.WalkLemmas.{least_take, least_take_first, least_keep, least_skip}
use Rattle.toml_rows.proofs.keys.Keys.least_of.Goals as goal

pub returns-then-not-is_unknown : goal.returns-then-not-is_unknown
returns-then-not-is_unknown c low h =
    let row = row_of c.args.self.now in
    let known = knows c.args.known.now in
    least_skip known row c.args.table c.args.part c.args.least h (λ u. let yes = (c.if-not-is_unknown.ensures low).1 u in let nope = c.if-not-is_unknown.true in absurd (grind arith))

pub returns-then-is_before : goal.returns-then-is_before
returns-then-is_before c low h =
    let row = row_of c.args.self.now in
    let known = knows c.args.known.now in
    let u : IsUnknown row c.args.table known c.args.part = (c.if-not-is_unknown.ensures low).0 refl in
    let least : IsLeast row c.args.table known c.args.part (Some c.in-Some.other) = rw c.in-Some.is at h in
    let before : IsBefore (row.name c.args.part) (row.name c.in-Some.other) = rw (c.get.ensures, c.get-in-Some.ensures) at (c.is_before.ensures.0 c.if-is_before.true) in
    least_take known row c.args.table c.args.part c.in-Some.other least u before

pub returns-else-is_before : goal.returns-else-is_before
returns-else-is_before c low h =
    let row = row_of c.args.self.now in
    let known = knows c.args.known.now in
    let least : IsLeast row c.args.table known c.args.part (Some c.in-Some.other) = rw c.in-Some.is at h in
    least_keep known row c.args.table c.args.part c.in-Some.other least
    (λ before. let back : IsBefore c.get.result.now c.get-in-Some.result.now = rw (c.get.ensures, c.get-in-Some.ensures) before in
    let yes = c.is_before.ensures.1 back in let nope = c.if-is_before.false in absurd (grind arith))

pub returns-in-None : goal.returns-in-None
returns-in-None c low h =
    let row = row_of c.args.self.now in
    let known = knows c.args.known.now in
    let u : IsUnknown row c.args.table known c.args.part = (c.if-not-is_unknown.ensures low).0 refl in
    let least : IsLeast row c.args.table known c.args.part None = rw c.in-None.is at h in
    least_take_first known row c.args.table c.args.part least u
