use Rattle.office_commands.proofs.Billed.{post_is_bill}
use Rattle.office_commands.proofs.billing.work.Goals as goal

pub returns-in-Ok-clause-statuses : goal.returns-in-Ok-clause-statuses
returns-in-Ok-clause-statuses g c = post_is_bill _ c.bill_then_close.ensures.statuses
