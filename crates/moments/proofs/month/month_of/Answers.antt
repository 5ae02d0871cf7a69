use Rattle.std.proofs.Common.{arith, sym}
use Rattle.moments.proofs.Calendar.{moment_in_month, month_small, month_at_is}
use Rattle.moments.proofs.month.month_of.Goals as goal

pub invariant_of-result : goal.invariant_of-result
invariant_of-result c =
    let is = moment_in_month c.ms.result c.args.m _ _ _ c.ms.ensures.same c.day_of-day.ensures in
    month_small _ c.args.m is.begun (omega (arith, c.ms.ensures.same, c.ms.ensures.below))

pub returns-clause-within : goal.returns-clause-within
returns-clause-within c = moment_in_month c.ms.result c.args.m _ _ _ c.ms.ensures.same c.day_of-day.ensures

pub returns-clause-month : goal.returns-clause-month
returns-clause-month c =
    let is = moment_in_month c.ms.result c.args.m _ _ _ c.ms.ensures.same c.day_of-day.ensures in
    let small = month_small _ c.args.m is.begun (omega (arith, c.ms.ensures.same, c.ms.ensures.below)) in
    sym (month_at_is c.args.m _ is (omega (arith, small)))
