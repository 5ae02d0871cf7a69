use Rattle.std.proofs.Common.{◌≡◌, ◌+◌, take}
use Rattle.plain_office.specs.Counts.{version_count}
use Rattle.plain_office.specs.Orderly.{current_objects}
use Rattle.restorable.specs.Tests.{capped, over_parts}
use Rattle.restorable.proofs.amounts.all_versions.Given as goal

abbrev pub invariant-loop-part : goal.invariant-loop-part
invariant-loop-part l = l.count ≡ capped (over_parts (λ bucket. version_count bucket + current_objects bucket) (take l.part-index l.parts))
