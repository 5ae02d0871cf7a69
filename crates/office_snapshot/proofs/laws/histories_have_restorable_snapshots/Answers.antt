use Rattle.office_snapshot.proofs.Fitting.{history_fits}
use Rattle.office_snapshot.proofs.laws.histories_have_restorable_snapshots.Goals as goal

pub returns : goal.returns
returns g = history_fits
