use Rattle.std.proofs.Common.{length}
use Rattle.bill_keeper.proofs.row_bills.+rises.Given as goal

-- how many bills are left
abbrev pub decreases-rises : goal.decreases-rises
decreases-rises l = length l.bills.now
