use Rattle.std.proofs.Common.{◌≡◌, ◌+◌, ◌<◌, ◌^◌, length, sum_by}
use Rattle.restorable.specs.Tests.{capped}
use Rattle.restorable.proofs.amounts.count_parts.Given as goal

abbrev pub invariant-loop-upload : goal.invariant-loop-upload
invariant-loop-upload l =
    (l.count < 2 ^ 64)
    × (capped (l.count + sum_by (λ upload. length upload.1.parts) l.upload-iterator) ≡ capped (sum_by (λ upload. length upload.1.parts) l.uploads.entries))
