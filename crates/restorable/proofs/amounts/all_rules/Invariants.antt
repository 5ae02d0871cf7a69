use Rattle.std.proofs.Common.{◌≡◌, take}
use Rattle.plain_office.specs.Counts.{rules_bytes}
use Rattle.restorable.specs.Tests.{capped, over_parts}
use Rattle.restorable.proofs.amounts.all_rules.Given as goal

abbrev pub invariant-loop-part : goal.invariant-loop-part
invariant-loop-part l = l.bytes ≡ capped (over_parts (λ bucket. rules_bytes bucket.rules) (take l.part-index l.parts))
