use Rattle.sqlite.specs.Held.{state}
use Rattle.bill_keeper.proofs.Query.{month_works}
use Rattle.bill_keeper.proofs.statements.read_month.Goals as goal

pub returns-clause-works : goal.returns-clause-works
returns-clause-works g c clean begun =
    month_works (state g.S.Store c.args.tx.now.conn.now) (state g.S.Store c.query_all.new.self.conn.now) c.args.month.now c.query_all.result begun
    (rw c.params-to_sql.ensures at (c.query_all.ensures.ok clean)) (rw c.params-to_sql.ensures at (c.query_all.ensures.err clean))
