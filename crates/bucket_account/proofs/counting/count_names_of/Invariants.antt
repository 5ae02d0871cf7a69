use Rattle.std.proofs.Common.{◌≡◌, ◌+◌, length}
use Rattle.std.specs.Prelude.{sum_by}
use Rattle.plain_office.specs.Counts.{tag_bytes}
use Rattle.bucket_account.proofs.counting.count_names_of.Given as goal

abbrev pub invariant-loop-upload : goal.invariant-loop-upload
invariant-loop-upload l =
    l.bytes + sum_by (λ upload. length upload.1.key + tag_bytes upload.1.tags) l.upload-iterator
    ≡ sum_by (λ upload. length upload.1.key + tag_bytes upload.1.tags) l.uploads.entries
