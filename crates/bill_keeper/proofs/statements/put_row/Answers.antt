use Rattle.std.proofs.Common.{[], ◌∷◌, pos}
use Rattle.sqlite.specs.Held.{state}
use Rattle.bill_keeper.proofs.Inside.{bill_works}
use Rattle.bill_keeper.proofs.statements.put_row.Goals as goal

pub returns-clause-works : goal.returns-clause-works
returns-clause-works g c clean begun =
    bill_works (state g.S.Store c.args.tx.now.conn.now) (state g.S.Store c.run_bill.new.tx.conn.now) c.args.month.now c.args.bucket.now c.args.total.now (pos c.args.lines) c.run_bill.result
    (c.run_bill.ensures.runs clean begun)
