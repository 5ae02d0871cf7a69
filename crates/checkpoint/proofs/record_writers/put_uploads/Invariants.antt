use Rattle.std.proofs.Common.{◌≡◌, ◌++◌, length, true}
use Rattle.std.specs.List.{flat_map, list_all}
use Rattle.checkpoint.specs.Parts.{four, upload_format}
use Rattle.checkpoint.proofs.record_writers.put_uploads.Given as goal

abbrev pub invariant-loop-number : goal.invariant-loop-number
invariant-loop-number l = record {
  bytes : l.out.items ++ flat_map upload_format.written l.number-iterator ≡ l.fn.out.items ++ (four.written (length l.uploads.entries) ++ flat_map upload_format.written l.uploads.entries);
  has : list_all upload_format.has l.number-iterator ≡ true → list_all upload_format.has l.uploads.entries ≡ true;
}
