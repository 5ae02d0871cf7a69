use Rattle.std.proofs.Common.{◌≡◌, ◌+◌, ◌<◌, ◌^◌, length, sum_by, count_by}
use Rattle.plain_office.specs.Orderly.{current_is_object, current_objects}
use Rattle.plain_office.specs.Counts.{version_count}
use Rattle.restorable.specs.Tests.{capped}
use Rattle.restorable.proofs.amounts.count_versions.Given as goal

abbrev pub invariant-loop-stack : goal.invariant-loop-stack
invariant-loop-stack l =
    (l.count < 2 ^ 64)
    × (capped (l.count + (sum_by (λ stack. length stack.1.versions) l.stack-iterator + count_by (λ stack. current_is_object stack.1.versions) l.stack-iterator))
    ≡ capped (version_count l.bucket + current_objects l.bucket))
