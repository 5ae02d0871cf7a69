use Rattle.std.proofs.Common.{◌≤◌, ℕ, sym, subst, arith}
use Rattle.moments.specs.Months.{month_at}
use Rattle.stacks.specs.Stacks.{replaced}
use Rattle.accrual.proofs.Windows.{month_at_order}
use Rattle.bucket_account.proofs.Replacing.{since_le}
use Rattle.bucket_account.proofs.adding.put_on.Goals as goal

pub open-requires-clause-row : goal.open-requires-clause-row
open-requires-clause-row c =
    let at : ℕ = c.args.incoming.at in
    let earlier : c.args.since ≤ at =
    subst (λ (n : ℕ). n ≤ at) (sym c.requires.since) (since_le at (replaced c.args.incoming.versioning c.args.stack.now.versions) c.requires.ready.since) in
    c.end_replaced.ensures.rows (month_at at) (c.in_ok-reserve.ensures.rows (month_at at) (month_at_order c.args.since at earlier) (omega arith))

pub returns-clause-rows : goal.returns-clause-rows
returns-clause-rows c = λ month has. c.open.ensures.rows month (c.end_replaced.ensures.rows month (c.in_ok-reserve.ensures.kept month has))
