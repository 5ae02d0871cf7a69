use Rattle.std.proofs.Common.{◌≡◌, All, true, rules, subst}
use Rattle.std.proofs.lemmas.List.{take_all}
use Rattle.std.proofs.lemmas.List.Elements.{All-more}
use Rattle.accrual.specs.Sums.{IsSmallMonth}
use Rattle.record_tests.proofs.accrual_tests.are_small.Goals as goal

pub loop-month-preserved : goal.loop-month-preserved
loop-month-preserved c =
    let small : c.is_small.result ≡ true = search rules in
    All-more IsSmallMonth c.args.sums.now c.loop-month.month-index c.month-item.result c.loop-month-test.true c.loop-month.invariant (subst IsSmallMonth c.month-item.is (c.is_small.ensures small))

pub returns : goal.returns
returns c _ = subst (All IsSmallMonth) (take_all c.loop-month.month-index c.args.sums.now c.loop-month-test.false) c.loop-month.invariant
