use Rattle.http_wire.proofs.Unique.{stands_unique}
use Rattle.http_wire.proofs.laws.stands_unique.Goals as goal

pub returns : goal.returns
returns c = stands_unique
