use Rattle.std.proofs.Common.{◌∙◌, ap}
use Rattle.std.specs.Prelude.{is_some}
use Rattle.office_machine.specs.AnswerParts.{closed_at}
use Rattle.office_machine.proofs.Rows.{closed_is}
use Rattle.office_machine.proofs.Seen.{seen_stands}
use Rattle.office_machine.proofs.machine.Machine.closed.Goals as goal

pub returns : goal.returns
returns c = record {
  exact = λ p stands.
      let month = c.args.month in
      let stood = seen_stands c.self.view_is stands in
      c.is_some.ensures ∙ ap is_some (
      c.closed_at.ensures ∙ ap (closed_at month) c.deref.ensures.value ∙ ap (closed_at month) stood.closed
      ∙ closed_is month p.closed
      );
}
