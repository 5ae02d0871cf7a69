use Rattle.std.proofs.Common.{◌≡◌, ◌++◌, map, take, true}
use Rattle.std.specs.List.{flat_map, list_all}
use Rattle.entry_codec.specs.Formats.{list}
use Rattle.office_snapshot.specs.Snapshots.{BucketPartRecord}
use Rattle.checkpoint.specs.Parts.{four, sums_format}
use Rattle.checkpoint.proofs.body_writers.put_all_sums.Given as goal

abbrev pub invariant-loop-part : goal.invariant-loop-part
invariant-loop-part l = record {
  bytes : l.out.items ≡ l.fn.out.items ++ flat_map (list four sums_format).written (map (λ (p : BucketPartRecord). p.sums) (take l.part-index l.buckets));
  has : list_all (list four sums_format).has (map (λ (p : BucketPartRecord). p.sums) (take l.part-index l.buckets)) ≡ true;
}
