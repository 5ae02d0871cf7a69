use Rattle.office_commands.proofs.Said.{said_is_report}
use Rattle.office_commands.proofs.reporting.work.Goals as goal

pub returns-in-Ok-clause-statuses : goal.returns-in-Ok-clause-statuses
returns-in-Ok-clause-statuses g c = said_is_report _ c.say_report.ensures.statuses
