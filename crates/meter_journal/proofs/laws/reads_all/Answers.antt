use Rattle.meter_journal.proofs.Unique.{goes_on}
use Rattle.meter_journal.proofs.laws.reads_all.Goals as goal

pub returns : goal.returns
returns c = goes_on
