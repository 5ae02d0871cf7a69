use Rattle.std.proofs.Common.{◌≡◌, take, sum_by}
use Rattle.plain_office.specs.Counts.{tag_bytes_of}
use Rattle.restorable.specs.Tests.{capped}
use Rattle.restorable.proofs.amounts.count_all_tags.Given as goal

abbrev pub invariant-loop-version : goal.invariant-loop-version
invariant-loop-version l = l.bytes ≡ capped (sum_by tag_bytes_of (take l.version-index l.versions))
