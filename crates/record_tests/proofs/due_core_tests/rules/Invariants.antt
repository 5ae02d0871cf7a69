use Rattle.std.proofs.Common.{◌≡◌, true}
use Rattle.std.specs.List.{list_all}
use Rattle.rules_core.specs.Configurations.{has_midnights}
use Rattle.record_tests.proofs.due_core_tests.rules.Given as goal

abbrev pub invariant-loop-asked : goal.invariant-loop-asked
invariant-loop-asked g l = list_all has_midnights l.rules.items ≡ true
