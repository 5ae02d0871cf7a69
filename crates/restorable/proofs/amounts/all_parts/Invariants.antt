use Rattle.std.proofs.Common.{◌≡◌, take}
use Rattle.plain_office.specs.Counts.{part_count}
use Rattle.restorable.specs.Tests.{capped, over_parts}
use Rattle.restorable.proofs.amounts.all_parts.Given as goal

abbrev pub invariant-loop-part : goal.invariant-loop-part
invariant-loop-part l = l.count ≡ capped (over_parts part_count (take l.part-index l.parts))
