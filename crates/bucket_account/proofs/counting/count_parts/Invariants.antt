use Rattle.std.proofs.Common.{◌≡◌, ◌+◌, length}
use Rattle.std.specs.Prelude.{sum_by}
use Rattle.plain_office.specs.Counts.{part_count}
use Rattle.bucket_account.proofs.counting.count_parts.Given as goal

abbrev pub invariant-loop-upload : goal.invariant-loop-upload
invariant-loop-upload l = l.count + sum_by (λ upload. length upload.1.parts) l.upload-iterator ≡ part_count l.bucket
