use Rattle.std.proofs.Common.{◌≡◌, ◌++◌, length, take, true}
use Rattle.std.specs.List.{flat_map, list_all}
use Rattle.checkpoint.specs.Parts.{four, version_format}
use Rattle.checkpoint.proofs.record_writers.put_versions.Given as goal

abbrev pub invariant-loop-version : goal.invariant-loop-version
invariant-loop-version l = record {
  bytes : l.out.items ≡ l.fn.out.items ++ (four.written (length l.versions) ++ flat_map (version_format).written (take l.version-index l.versions));
  has : list_all (version_format).has (take l.version-index l.versions) ≡ true;
}
