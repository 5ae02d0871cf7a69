use Rattle.moments.proofs.Calendar.{in_month_at}
use Rattle.moments.proofs.month.calendar_months.Goals as goal

pub returns-clause-each : goal.returns-clause-each
returns-clause-each c = in_month_at
