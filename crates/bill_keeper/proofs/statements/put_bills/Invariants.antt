use Rattle.std.proofs.Common.{◌≡◌, ◌≤◌, Ok, take}
use Rattle.sqlite.specs.Held.{state}
use Rattle.sqlite.specs.View.{doubt}
use Rattle.bill_rows.specs.Puts.{PutsBills}
use Rattle.bill_keeper.specs.Steps.{WorksBy}
use Rattle.bill_keeper.proofs.statements.put_bills.Given as goal

-- the bills so far are put in
abbrev pub invariant-bills : goal.invariant-bills
invariant-bills g l =
    let old = state g.S.Store l.fn.tx.conn.now in
    let now = state g.S.Store l.tx.conn.now in
    (l.tx.conn.ghost_name ≡ l.initial.tx.conn.ghost_name) × (doubt old.is_clean ≤ doubt now.is_clean)
    × WorksBy old now (Ok (tt {0})) (λ _. PutsBills l.month (take l.bill-index l.bills))
