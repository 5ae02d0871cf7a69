use Rattle.std.proofs.Common.{◌≡◌, ◌++◌, length, take, true}
use Rattle.std.specs.List.{flat_map, list_all}
use Rattle.checkpoint.specs.Parts.{four, sums_format}
use Rattle.checkpoint.proofs.sum_writers.put_sums.Given as goal

abbrev pub invariant-loop-month : goal.invariant-loop-month
invariant-loop-month l = record {
  bytes : l.out.items ≡ l.fn.out.items ++ (four.written (length l.sums) ++ flat_map sums_format.written (take l.month-index l.sums));
  has : list_all sums_format.has (take l.month-index l.sums) ≡ true;
}
