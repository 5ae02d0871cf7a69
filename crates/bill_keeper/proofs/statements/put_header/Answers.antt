use Rattle.std.proofs.Common.{[], ◌∷◌, pos}
use Rattle.sqlite.specs.Held.{state}
use Rattle.bill_keeper.proofs.Inside.{header_works}
use Rattle.bill_keeper.proofs.statements.put_header.Goals as goal

pub returns-clause-works : goal.returns-clause-works
returns-clause-works g c clean begun =
    header_works (state g.S.Store c.args.tx.now.conn.now) (state g.S.Store c.run_header.new.tx.conn.now) c.args.month.now c.args.total.now (pos c.args.lines) c.run_header.result
    (c.run_header.ensures.runs clean begun)
