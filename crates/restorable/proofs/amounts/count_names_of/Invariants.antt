use Rattle.std.proofs.Common.{◌≡◌, ◌+◌, ◌<◌, ◌^◌, length, sum_by}
use Rattle.plain_office.specs.Counts.{tag_bytes}
use Rattle.restorable.specs.Tests.{capped}
use Rattle.restorable.proofs.amounts.count_names_of.Given as goal

abbrev pub invariant-loop-upload : goal.invariant-loop-upload
invariant-loop-upload l =
    (l.bytes < 2 ^ 64)
    × (capped (l.bytes + sum_by (λ upload. length upload.1.key + tag_bytes upload.1.tags) l.upload-iterator)
    ≡ capped (sum_by (λ upload. length upload.1.key + tag_bytes upload.1.tags) l.uploads.entries))
