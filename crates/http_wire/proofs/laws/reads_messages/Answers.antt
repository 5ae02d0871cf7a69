use Rattle.http_wire.proofs.ReadLemmas.{answers_first, refuses_first, ends_with_none}
use Rattle.http_wire.proofs.laws.reads_messages.Goals as goal

pub returns : goal.returns
returns c = record { request = answers_first; refused = refuses_first; end = ends_with_none }
