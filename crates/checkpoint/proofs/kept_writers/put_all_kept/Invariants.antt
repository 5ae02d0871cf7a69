use Rattle.std.proofs.Common.{◌≡◌, ◌++◌, length, take, true}
use Rattle.std.specs.List.{flat_map, list_all}
use Rattle.checkpoint.specs.Parts.{four, kept_format}
use Rattle.checkpoint.proofs.kept_writers.put_all_kept.Given as goal

abbrev pub invariant-loop-kept : goal.invariant-loop-kept
invariant-loop-kept l = record {
  bytes : l.out.items ≡ l.fn.out.items ++ (four.written (length l.all) ++ flat_map kept_format.written (take l.kept-index l.all));
  has : list_all kept_format.has (take l.kept-index l.all) ≡ true;
}
