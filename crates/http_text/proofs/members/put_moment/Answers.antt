use Rattle.json.specs.Print.{quoted}
use Rattle.moments.specs.Texts.{moment_text}
use Rattle.http_text.proofs.RoomLemmas.{puts_then}
use Rattle.http_text.proofs.members.put_moment.Goals as goal

pub returns : goal.returns
returns c = puts_then c.args.before.now (quoted (moment_text c.args.ms)) c.put-at.ensures (rw c.print_moment.ensures at c.put_quoted.ensures)
