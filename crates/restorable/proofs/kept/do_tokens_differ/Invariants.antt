use Rattle.std.proofs.Common.{◌≡◌, drop}
use Rattle.restorable.specs.Tests.{tokens_differ}
use Rattle.restorable.proofs.kept.do_tokens_differ.Given as goal

abbrev pub invariant-loop-i : goal.invariant-loop-i
invariant-loop-i l = tokens_differ (drop l.i l.all) ≡ tokens_differ l.all
