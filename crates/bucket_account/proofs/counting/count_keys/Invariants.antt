use Rattle.std.proofs.Common.{◌≡◌, ◌+◌, length}
use Rattle.std.specs.Prelude.{sum_by}
use Rattle.plain_office.specs.Counts.{tag_bytes_of}
use Rattle.bucket_account.proofs.counting.count_keys.Given as goal

abbrev pub invariant-loop-key : goal.invariant-loop-key
invariant-loop-key l =
    l.bytes + sum_by (λ stack. length stack.0 + sum_by tag_bytes_of stack.1.versions) l.key-iterator
    ≡ sum_by (λ stack. length stack.0 + sum_by tag_bytes_of stack.1.versions) l.stacks.entries
