use Rattle.std.proofs.Common.{◌≡◌, length, take}
use Rattle.restorable.specs.Tests.{capped, over_parts}
use Rattle.restorable.proofs.amounts.all_uploads.Given as goal

abbrev pub invariant-loop-part : goal.invariant-loop-part
invariant-loop-part l = l.count ≡ capped (over_parts (λ bucket. length bucket.uploads) (take l.part-index l.parts))
