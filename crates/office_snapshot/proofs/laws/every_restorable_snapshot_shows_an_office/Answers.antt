use Rattle.office_snapshot.proofs.Shown.{restored, shows_restored}
use Rattle.office_snapshot.proofs.laws.every_restorable_snapshot_shows_an_office.Goals as goal

pub returns : goal.returns
returns g = λ s h. (restored s, shows_restored s h)
