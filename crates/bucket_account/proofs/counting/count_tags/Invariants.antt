use Rattle.std.proofs.Common.{◌≡◌, take}
use Rattle.std.specs.Prelude.{sum_by}
use Rattle.plain_office.specs.Counts.{tag_bytes_of}
use Rattle.bucket_account.proofs.counting.count_tags.Given as goal

abbrev pub invariant-loop-version : goal.invariant-loop-version
invariant-loop-version l = l.bytes ≡ sum_by tag_bytes_of (take l.version-index l.versions)
