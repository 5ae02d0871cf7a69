use Rattle.meter_journal.proofs.Heads.{made_not_none, foreign_is}
use Rattle.meter_journal.proofs.laws.one_head.Goals as goal

pub returns-clause-apart : goal.returns-clause-apart
returns-clause-apart c = made_not_none

pub returns-clause-foreign : goal.returns-clause-foreign
returns-clause-foreign c = foreign_is
