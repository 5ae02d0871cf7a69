use Rattle.std.proofs.Common.{◌≡◌, ◌+◌, length, take, sum_by}
use Rattle.office_base.specs.Tags.{Tag, tags_of}
use Rattle.restorable.specs.Tests.{capped}
use Rattle.restorable.proofs.amounts.pair_bytes.Given as goal

abbrev pub invariant-loop-pair : goal.invariant-loop-pair
invariant-loop-pair l = l.bytes ≡ capped (sum_by (λ (tag : Tag). length tag.0 + length tag.1) (tags_of (take l.pair-index l.pairs)))
