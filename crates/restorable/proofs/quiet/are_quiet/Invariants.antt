use Rattle.std.proofs.Common.{◌≡◌, drop}
use Rattle.std.specs.List.{list_all}
use Rattle.office_snapshot.specs.Snapshots.{BucketPartRecord}
use Rattle.restorable.specs.Tests.{is_quiet}
use Rattle.restorable.proofs.quiet.are_quiet.Given as goal

abbrev pub invariant-loop-part : goal.invariant-loop-part
invariant-loop-part l = list_all (λ (part : BucketPartRecord). is_quiet l.until part.bucket) (drop l.part-index l.parts) ≡ list_all (λ (part : BucketPartRecord). is_quiet l.until part.bucket) l.parts
