use Rattle.std.proofs.Common.{◌≡◌, ◌+◌, length}
use Rattle.std.specs.Prelude.{sum_by}
use Rattle.plain_office.specs.Counts.{version_count}
use Rattle.bucket_account.proofs.counting.count_versions.Given as goal

abbrev pub invariant-loop-stack : goal.invariant-loop-stack
invariant-loop-stack l = l.count + sum_by (λ stack. length stack.1.versions) l.stack-iterator ≡ version_count l.bucket
