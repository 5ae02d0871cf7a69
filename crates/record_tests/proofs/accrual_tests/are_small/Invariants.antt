use Rattle.std.proofs.Common.{All, take}
use Rattle.accrual.specs.Sums.{IsSmallMonth}
use Rattle.record_tests.proofs.accrual_tests.are_small.Given as goal

abbrev pub invariant-loop-month : goal.invariant-loop-month
invariant-loop-month l = All IsSmallMonth (take l.month-index l.sums)
