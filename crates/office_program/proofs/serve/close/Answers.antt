use Rattle.std.proofs.Common.{◌∙◌, ap}
use Rattle.office_program.proofs.Working.{zero_unnoted_workers}
use Rattle.office_program.proofs.serve.close.Goals as goal

pub returns-clause-unnoted : goal.returns-clause-unnoted
returns-clause-unnoted g c zero =
    let same = c.note_line.ensures.noted.0
    (c.served_line.ensures ∙ zero_unnoted_workers c.ended-outcome.result c.store_failed-failed.result c.serve_exit.result c.serve_exit.ensures zero) in
    (ap g.W.Replies.noted same, ap g.W.Replies.faults same)
