use Rattle.std.proofs.Common.{arith, subst, sym}
use Rattle.std.proofs.lemmas.List.Elements.{All-get_or}
use Rattle.accrual.specs.Sums.{IsSmallMonth, IsSmall}
use Rattle.accrual.proofs.Places.{kept_none}
use Rattle.accrual.proofs.Summing.{taken_up, sums_more, small_more, sums_none, nothing_small}
use Rattle.accrual.proofs.rows.Rows.from_sums.Goals as goal

pub loop-month-init : goal.loop-month-init
loop-month-init c = record {
  run = omega (arith, c.new-rows.ensures.first, c.new-rows.ensures.none);
  small = λ month class. subst IsSmall (sym (kept_none c.new-rows.result month _ c.new-rows.ensures.none)) nothing_small;
  sums = sums_none c.new-rows.result (λ month rank. kept_none c.new-rows.result month rank c.new-rows.ensures.none);
}

pub put_row-requires : goal.put_row-requires
put_row-requires c = c.in_ok-reserve.ensures.rows c.number-number.result (omega arith) (omega arith)

pub loop-month-preserved : goal.loop-month-preserved
loop-month-preserved c =
    let s = c.month-item.result in
    let small : IsSmallMonth s = subst IsSmallMonth (sym c.month-item.is) (All-get_or IsSmallMonth c.args.sums.now c.loop-month.month-index s c.loop-month-test.true c.requires.small) in
    let taken = taken_up c.loop-month.rows c.reserve.new.self c.put_row.new.self c.number-number.result s
    c.row_of.result c.number-number.ensures.number c.reserve.ensures.same c.put_row.ensures c.row_of.ensures in
    let small_too = small_more c.loop-month.rows c.put_row.new.self s small taken c.loop-month.invariant.small in
    record {
      run = omega (arith, c.put_row.ensures.first, c.put_row.ensures.as_many, c.reserve.ensures.run);
      small = small_too;
      sums = sums_more c.loop-month.rows c.put_row.new.self c.args.sums.now c.loop-month.month-index s c.loop-month-test.true c.month-item.is c.requires.rising taken c.loop-month.invariant.small small_too c.loop-month.invariant.sums;
    }
