use Rattle.std.proofs.Common.{◌≡◌, ◌≤◌, arith}
use Rattle.std.proofs.lemmas.Grind.{common_steps}
use Rattle.toml_rows.specs.Search.{none}
use Rattle.toml_rows.specs.Rows.{row_of}
use Rattle.toml_rows.proofs.RowLemmas.{turn_next, turn_found, turn_free, turn_end}
use Rattle.toml_rows.proofs.keys.Keys.find.Goals as goal

pub returns-then-next : goal.returns-then-next
returns-then-next c level found root =
    let row = row_of c.args.self.now in
    let is : c.link-next.result ≡ none = omega arith in
    turn_free row level found c.args.table c.args.name.now c.turns.at c.turns.turn (c.turns.invariant level found root)
    c.bit-high.result c.link-next.result c.bit-high.ensures c.link-next.ensures is

pub returns-then-is : goal.returns-then-is
returns-then-is c level found root =
    let row = row_of c.args.self.now in
    let some : ¬ (c.link-next.result ≡ none) = λ is. absurd (omega arith) in
    let both = c.is.ensures.0 c.if-is.true in
    turn_found row level found c.args.table c.args.name.now c.turns.at c.turns.turn (c.turns.invariant level found root)
    c.bit-high.result c.link-next.result c.bit-high.ensures c.link-next.ensures some both.0 both.1

pub turns-preserved : goal.turns-preserved
turns-preserved c level found root =
    let row = row_of c.args.self.now in
    let some : ¬ (c.link-next.result ≡ none) = λ is. absurd (omega arith) in
    turn_next row level found c.args.table c.args.name.now c.turns.at c.turns.turn (c.turns.invariant level found root)
    c.bit-high.result c.link-next.result c.bit-high.ensures c.link-next.ensures some (λ both. let yes = c.is.ensures.1 both in let nope = c.if-is.false in absurd (grind arith))

pub returns : goal.returns
returns c level found root =
    let row = row_of c.args.self.now in
    let end : row.count ≤ c.turns.turn = grind (arith, common_steps) in
    absurd (turn_end row level found c.args.table c.args.name.now c.turns.at c.turns.turn (c.turns.invariant level found root) end)
