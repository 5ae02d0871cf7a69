use Rattle.std.proofs.Common.{ap, ◌∙◌}
use Rattle.std.specs.Prelude.{is_some}
use Rattle.stacks.specs.Stacks.{has_id}
use Rattle.record_tests.proofs.Any.{any_found}
use Rattle.record_tests.proofs.stacks_tests.has.Goals as goal

pub returns-in-Some : goal.returns-in-Some
returns-in-Some c = ap is_some c.in-Some.ensures ∙ any_found (has_id c.args.id) c.args.stack.now.versions

pub returns-in-None : goal.returns-in-None
returns-in-None c = ap is_some c.in-None.ensures ∙ any_found (has_id c.args.id) c.args.stack.now.versions
