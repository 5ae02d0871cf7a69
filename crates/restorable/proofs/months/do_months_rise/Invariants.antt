use Rattle.std.proofs.Common.{◌≡◌, drop}
use Rattle.accrual.specs.declared.monthly.MonthSums.{MonthSums}
use Rattle.restorable.specs.Tests.{rise_from}
use Rattle.restorable.proofs.months.do_months_rise.Given as goal

abbrev pub invariant-loop-sums : goal.invariant-loop-sums
invariant-loop-sums l = rise_from (λ (s : MonthSums). s.month) l.least (drop l.sums-index l.all) ≡ rise_from (λ (s : MonthSums). s.month) 0 l.all
