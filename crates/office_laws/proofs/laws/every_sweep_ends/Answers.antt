use Rattle.office_laws.proofs.Ends.{office_sweeps, one_sweep}
use Rattle.office_laws.proofs.laws.every_sweep_ends.Goals as goal

pub returns : goal.returns
returns c = record { ends = office_sweeps; one = one_sweep }
