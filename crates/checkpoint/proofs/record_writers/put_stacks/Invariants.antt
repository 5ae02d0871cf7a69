use Rattle.std.proofs.Common.{◌≡◌, ◌++◌, length, true}
use Rattle.std.specs.List.{flat_map, list_all}
use Rattle.checkpoint.specs.Parts.{four, stack_format}
use Rattle.checkpoint.proofs.record_writers.put_stacks.Given as goal

abbrev pub invariant-loop-key : goal.invariant-loop-key
invariant-loop-key l = record {
  bytes : l.out.items ++ flat_map stack_format.written l.key-iterator ≡ l.fn.out.items ++ (four.written (length l.stacks.entries) ++ flat_map stack_format.written l.stacks.entries);
  has : list_all stack_format.has l.key-iterator ≡ true → list_all stack_format.has l.stacks.entries ≡ true;
}
