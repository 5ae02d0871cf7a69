use Rattle.std.proofs.Common.{ℕ, ◌<◌, subst}
use Rattle.moments.specs.Months.{months}
use Rattle.sqlite.specs.Held.{state}
use Rattle.bill_keeper.proofs.Told.{posting_told, posting_table}
use Rattle.bill_keeper.proofs.month_table.post_text.Goals as goal

pub returns-clause-told : goal.returns-clause-told
returns-clause-told g c table =
    posting_told (state g.S.Store c.args.conn.now) (state g.S.Store c.post_rows.new.conn) c.args.month c.args.text.now c.requires.text c.args.total.now c.args.count c.args.bills.now c.requires.total c.requires.count c.post_rows.result
    c.post_rows.ensures.clean c.post_rows.ensures.posts table (subst (λ (n : ℕ). n < months) c.number-among.ensures.number c.number-among.ensures.among) c.requires.bills.rise c.requires.bills.small

pub returns-clause-table : goal.returns-clause-table
returns-clause-table g c table =
    posting_table (state g.S.Store c.args.conn.now) (state g.S.Store c.post_rows.new.conn) c.args.month c.args.text.now c.requires.text c.args.total.now c.args.count c.args.bills.now c.requires.total c.requires.count c.post_rows.result
    c.post_rows.ensures.clean c.post_rows.ensures.posts table (subst (λ (n : ℕ). n < months) c.number-among.ensures.number c.number-among.ensures.among) c.requires.bills.rise c.requires.bills.small
