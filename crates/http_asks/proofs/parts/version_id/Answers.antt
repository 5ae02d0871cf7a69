use Rattle.http_asks.proofs.NumberLemmas.{version_is}
use Rattle.http_asks.proofs.parts.version_id.Goals as goal

pub returns-in-Some : goal.returns-in-Some
returns-in-Some c = version_is c.args.part.now c.in-Some.id c.in-Some.ensures.found.0 c.in-Some.ensures.found.1
