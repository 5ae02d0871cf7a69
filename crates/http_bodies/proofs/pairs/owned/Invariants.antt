use Rattle.std.proofs.Common.{◌≡◌, ◌++◌}
use Rattle.office_base.specs.Tags.{tags_of}
use Rattle.http_bodies.specs.Pairs.{pairs_of}
use Rattle.http_bodies.proofs.pairs.owned.Given as goal

abbrev pub invariant-loop-name : goal.invariant-loop-name
invariant-loop-name l = pairs_of l.fn.texts.entries ≡ tags_of l.pairs.items ++ pairs_of l.name-iterator
