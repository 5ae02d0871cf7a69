use Rattle.std.proofs.Common.{◌≡◌, ◌++◌, length, take, true}
use Rattle.std.specs.List.{flat_map, list_all}
use Rattle.entry_codec.specs.Formats.{pair}
use Rattle.checkpoint.specs.Parts.{four, month_format, tariff_format}
use Rattle.checkpoint.proofs.record_writers.put_closed.Given as goal

abbrev pub invariant-loop-month : goal.invariant-loop-month
invariant-loop-month l = record {
  bytes : l.out.items ≡ l.fn.out.items ++ (four.written (length l.closed) ++ flat_map (pair month_format tariff_format).written (take l.month-index l.closed));
  has : list_all (pair month_format tariff_format).has (take l.month-index l.closed) ≡ true;
}
