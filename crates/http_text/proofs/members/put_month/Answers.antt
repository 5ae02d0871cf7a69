use Rattle.json.specs.Print.{quoted}
use Rattle.http_text.specs.Names.{month_text}
use Rattle.http_text.proofs.RoomLemmas.{puts_then}
use Rattle.http_text.proofs.members.put_month.Goals as goal

pub returns : goal.returns
returns c = puts_then c.args.before.now (quoted (month_text c.args.month)) c.put-at.ensures (rw c.print_month.ensures at c.put_quoted.ensures)
