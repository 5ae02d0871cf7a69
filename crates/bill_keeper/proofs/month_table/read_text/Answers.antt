use Rattle.std.proofs.Common.{ℕ, ◌<◌, subst}
use Rattle.moments.specs.Months.{months}
use Rattle.sqlite.specs.Held.{state}
use Rattle.bill_keeper.proofs.Told.{reading_all, reading_same, reading_table}
use Rattle.bill_keeper.proofs.month_table.read_text.Goals as goal

pub returns-clause-told : goal.returns-clause-told
returns-clause-told g c =
    reading_all (state g.S.Store c.args.conn.now) (state g.S.Store c.read_rows.new.conn) c.args.month c.args.text.now c.requires.text c.read_rows.result c.read_rows.ensures.clean
    c.read_rows.ensures.reads (subst (λ (n : ℕ). n < months) c.number-among.ensures.number c.number-among.ensures.among)

pub returns-clause-same : goal.returns-clause-same
returns-clause-same g c table =
    reading_same (state g.S.Store c.args.conn.now) (state g.S.Store c.read_rows.new.conn) c.args.text.now c.read_rows.result c.read_rows.ensures.clean c.read_rows.ensures.reads table

pub returns-clause-table : goal.returns-clause-table
returns-clause-table g c table =
    reading_table (state g.S.Store c.args.conn.now) (state g.S.Store c.read_rows.new.conn) c.args.text.now c.read_rows.result c.read_rows.ensures.clean c.read_rows.ensures.reads table
