use Rattle.office_snapshot.proofs.Few.{few_stays}
use Rattle.office_snapshot.proofs.Metering.{part_stands}
use Rattle.office_snapshot.proofs.laws.sums_and_open_stays_make_the_meters.Goals as goal

pub returns : goal.returns
returns g = record { stand = part_stands; few = few_stays }
