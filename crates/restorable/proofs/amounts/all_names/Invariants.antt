use Rattle.std.proofs.Common.{◌≡◌, take}
use Rattle.plain_office.specs.Counts.{name_bytes}
use Rattle.restorable.specs.Tests.{capped, over_parts}
use Rattle.restorable.proofs.amounts.all_names.Given as goal

abbrev pub invariant-loop-part : goal.invariant-loop-part
invariant-loop-part l = l.bytes ≡ capped (over_parts name_bytes (take l.part-index l.parts))
