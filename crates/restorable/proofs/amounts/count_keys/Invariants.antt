use Rattle.std.proofs.Common.{◌≡◌, ◌+◌, ◌<◌, ◌^◌, length, sum_by}
use Rattle.plain_office.specs.Counts.{tag_bytes_of}
use Rattle.restorable.specs.Tests.{capped}
use Rattle.restorable.proofs.amounts.count_keys.Given as goal

abbrev pub invariant-loop-key : goal.invariant-loop-key
invariant-loop-key l =
    (l.bytes < 2 ^ 64)
    × (capped (l.bytes + sum_by (λ stack. length stack.0 + sum_by tag_bytes_of stack.1.versions) l.key-iterator)
    ≡ capped (sum_by (λ stack. length stack.0 + sum_by tag_bytes_of stack.1.versions) l.stacks.entries))
