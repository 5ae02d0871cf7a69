use Rattle.std.proofs.Common.{sym, subst}
use Rattle.office_machine.specs.Once.{OfficeView, StandsFor}
use Rattle.office_machine.proofs.Lateness.{closed_reply}
use Rattle.office_machine.proofs.office.Office.answer.Goals as goal

pub returns-clause-closed : goal.returns-clause-closed
returns-clause-closed c = λ p u stands asks.
    let stood = subst (λ (v : OfficeView). StandsFor v p) (sym c.self.view_is) stands in
    closed_reply c.args.query.now c.args.t u p asks c.answer.result (c.answer.ensures.reply p stood.records)
