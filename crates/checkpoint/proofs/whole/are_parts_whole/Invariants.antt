use Rattle.std.proofs.Common.{◌≡◌, take, true}
use Rattle.std.specs.List.{list_all}
use Rattle.office_snapshot.specs.Snapshots.{BucketPartRecord}
use Rattle.checkpoint.specs.Parts.{are_six}
use Rattle.checkpoint.proofs.whole.are_parts_whole.Given as goal

abbrev pub invariant-loop-part : goal.invariant-loop-part
invariant-loop-part l = list_all (λ (part : BucketPartRecord). list_all are_six part.sums) (take l.part-index l.parts) ≡ true
