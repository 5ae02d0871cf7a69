use Rattle.std.proofs.Common.{◌≡◌, ◌++◌, map, take, true}
use Rattle.std.specs.List.{flat_map, list_all}
use Rattle.office_snapshot.specs.Snapshots.{BucketPartRecord}
use Rattle.checkpoint.specs.Parts.{uploads_format}
use Rattle.checkpoint.proofs.body_writers.put_all_uploads.Given as goal

abbrev pub invariant-loop-part : goal.invariant-loop-part
invariant-loop-part l = record {
  bytes : l.out.items ≡ l.fn.out.items ++ flat_map (uploads_format).written (map (λ (p : BucketPartRecord). p.bucket.uploads) (take l.part-index l.buckets));
  has : list_all (uploads_format).has (map (λ (p : BucketPartRecord). p.bucket.uploads) (take l.part-index l.buckets)) ≡ true;
}
