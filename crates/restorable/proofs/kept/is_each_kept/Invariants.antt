use Rattle.std.proofs.Common.{◌≡◌, drop}
use Rattle.std.specs.List.{list_all}
use Rattle.restorable.specs.Tests.{is_kept}
use Rattle.restorable.proofs.kept.is_each_kept.Given as goal

abbrev pub invariant-loop-kept : goal.invariant-loop-kept
invariant-loop-kept l = list_all is_kept (drop l.kept-index l.all) ≡ list_all is_kept l.all
