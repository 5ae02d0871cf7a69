use Rattle.std.proofs.Common.{◌≡◌, true, not, ap, ◌∙◌}
use Rattle.sqlite.specs.Held.{state}
use Rattle.bill_keeper.proofs.Back.{reads_rows}
use Rattle.bill_keeper.proofs.sheet.read_rows.Goals as goal

pub returns-clause-reads : goal.returns-clause-reads
returns-clause-reads g c clean =
    let settled : c.is_autocommit-settled.result ≡ true = c.is_autocommit-settled.ensures.value ∙ ap not c.requires.idle in
    reads_rows (state g.S.Store c.args.conn.now) (state g.S.Store c.query_all.new.self) c.args.month.now c.query_all.result (c.is_autocommit-settled.ensures.settled settled)
    (rw c.params-to_sql.ensures at (c.query_all.ensures.ok clean)) (rw c.params-to_sql.ensures at (c.query_all.ensures.err clean))
