use Rattle.json.specs.Print.{quoted}
use Rattle.http_text.proofs.RoomLemmas.{puts_then}
use Rattle.http_text.proofs.members.put_text.Goals as goal

pub returns : goal.returns
returns c = puts_then c.args.before.now (quoted c.args.text.now) c.put-at.ensures (rw c.as_bytes.ensures.value at c.put_quoted.ensures)
