use Rattle.http_wire.proofs.Unique.{messages_unique}
use Rattle.http_wire.proofs.laws.messages_unique.Goals as goal

pub returns : goal.returns
returns c = messages_unique
