use Rattle.http_wire.proofs.Unique.{stands_more}
use Rattle.http_wire.proofs.laws.stands_more.Goals as goal

pub returns : goal.returns
returns c = stands_more
