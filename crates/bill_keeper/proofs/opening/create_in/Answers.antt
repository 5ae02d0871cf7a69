use Rattle.sqlite.specs.Held.{state}
use Rattle.bill_keeper.proofs.Fresh.{creates, creates_none}
use Rattle.bill_keeper.proofs.opening.create_in.Goals as goal

pub returns-clause-table : goal.returns-clause-table
returns-clause-table g c = creates (state g.S.Store c.args.conn.now) (state g.S.Store c.execute.new.self) c.execute.result c.requires c.execute.ensures.runs

pub returns-clause-empty : goal.returns-clause-empty
returns-clause-empty g c = creates_none (state g.S.Store c.args.conn.now) (state g.S.Store c.execute.new.self) c.execute.result c.requires c.execute.ensures.runs
