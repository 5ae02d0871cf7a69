use Rattle.std.proofs.Common.{pos}
use Rattle.sqlite.specs.Held.{state}
use Rattle.bill_keeper.proofs.Put.{month_put}
use Rattle.bill_keeper.proofs.statements.put_month.Goals as goal

pub returns-clause-works : goal.returns-clause-works
returns-clause-works g c =
    month_put c.args.month.now c.args.total.now c.args.count c.args.bills.now (state g.S.Store c.args.tx.now.conn.now) (state g.S.Store c.put_header.new.tx.conn.now)
    (state g.S.Store c.read_single.new.tx.conn.now) (state g.S.Store c.put_bills.new.tx.conn.now) c.in_ok-written.written c.in_ok-_rows._rows c.if-written-eq0.false c.in_ok-_rows.ensures.clean c.in_ok-put_bills.ensures.clean
    c.in_ok-written.ensures.works c.in_ok-_rows.ensures.works c.in_ok-put_bills.ensures.works
