use Rattle.std.proofs.Common.{ℕ, ◌≤◌, ◌+◌, length, take}
use Rattle.moments.specs.Months.{months}
use Rattle.class_rules.specs.Classes.{rank_of}
use Rattle.class_rules.specs.declared.class.Class.{Class}
use Rattle.accrual.specs.Rows.{kept_in}
use Rattle.accrual.specs.Sums.{AreSumsIn, IsSmall}
use Rattle.accrual.proofs.rows.Rows.from_sums.Given as goal

abbrev pub invariant-loop-month : goal.invariant-loop-month
invariant-loop-month l = record {
  run : l.rows.first + length l.rows.rows.items ≤ months;
  small : (month : ℕ) (class : Class) → IsSmall (kept_in l.rows month (rank_of class));
  sums : AreSumsIn l.rows (take l.month-index l.sums);
}
