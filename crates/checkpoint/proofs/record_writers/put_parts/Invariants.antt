use Rattle.std.proofs.Common.{◌≡◌, ◌++◌, length, true}
use Rattle.std.specs.List.{flat_map, list_all}
use Rattle.checkpoint.specs.Parts.{four, part_format}
use Rattle.checkpoint.proofs.record_writers.put_parts.Given as goal

abbrev pub invariant-loop-number : goal.invariant-loop-number
invariant-loop-number l = record {
  bytes : l.out.items ++ flat_map part_format.written l.number-iterator ≡ l.fn.out.items ++ (four.written (length l.parts.entries) ++ flat_map part_format.written l.parts.entries);
  has : list_all part_format.has l.number-iterator ≡ true → list_all part_format.has l.parts.entries ≡ true;
}
