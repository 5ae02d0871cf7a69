use Rattle.meter_journal.proofs.Unique.{entries_unique}
use Rattle.meter_journal.proofs.laws.one_history.Goals as goal

pub returns : goal.returns
returns c = entries_unique
