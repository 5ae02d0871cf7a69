use Rattle.std.proofs.Common.{arith}
use Rattle.accrual.proofs.Windows.{month_at_order}
use Rattle.bucket_account.proofs.booking.reserve.Goals as goal

pub reserve-requires : goal.reserve-requires
reserve-requires c =
    let later = month_at_order c.args.from c.args.to c.requires.later in
    omega (arith, later, c.month_of.ensures.month, c.month_of-2.ensures.month)
