use Rattle.http_wire.proofs.Unique.{stands_rest}
use Rattle.http_wire.proofs.laws.stands_rest.Goals as goal

pub returns : goal.returns
returns c = stands_rest
