use Rattle.std.proofs.Common.{ap, sym, ◌∙◌}
use Rattle.kept_replies.specs.Queue.{kept_in}
use Rattle.office_machine.specs.Once.{OfficeView}
use Rattle.office_machine.proofs.Repeats.{not_kept}
use Rattle.office_machine.proofs.office.Office.recall.Goals as goal

pub returns-clause-new : goal.returns-clause-new
returns-clause-new c = λ is.
    sym (ap (λ (v : OfficeView). kept_in c.args.token.now v.kept.queue) c.self.view_is)
    ∙ not_kept c.args.token.now c.args.command.now c.self.inside.kept.queue c.recall.result c.recall.ensures is
