use Rattle.std.proofs.Common.{decimal}
use Rattle.http_text.proofs.RoomLemmas.{puts_then}
use Rattle.http_text.proofs.members.put_whole.Goals as goal

pub returns-clause-puts : goal.returns-clause-puts
returns-clause-puts c = puts_then c.args.before.now (decimal c.args.number) c.put-at.ensures (c.put_number.ensures)
