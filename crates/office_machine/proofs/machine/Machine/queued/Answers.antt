use Rattle.std.proofs.Common.{ap, ◌∙◌, subst}
use Rattle.std.specs.Prelude.{Option}
use Rattle.office_base.specs.Maps.{at_name}
use Rattle.bucket_account.specs.Counting.{AccountRecord}
use Rattle.office_machine.specs.Queued.{AreQueuedIn}
use Rattle.office_machine.specs.Standing.{Records}
use Rattle.office_machine.proofs.machine.Machine.queued.Goals as goal

pub returns-in-Ok-clause-exact : goal.returns-in-Ok-clause-exact
returns-in-Ok-clause-exact c =
    subst (λ (o : Option AccountRecord). AreQueuedIn c.in-Ok.entries o)
    (c.in-Some.ensures.value ∙ ap (λ (r : Records). at_name c.args.bucket.now r.accounts) c.self.view_is) c.in-Ok.ensures.exact
