use Rattle.accrual.specs.Rows.{AreBefore}
use Rattle.accrual.proofs.Summing.{AreSumsTo}
use Rattle.accrual.proofs.rows.Rows.sums.Given as goal

abbrev pub invariant-loop-number : goal.invariant-loop-number
invariant-loop-number l = record {
  sums : AreSumsTo l.self l.number l.all.items;
  before : AreBefore l.self l.number l.before;
}
