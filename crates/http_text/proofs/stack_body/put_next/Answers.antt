use Rattle.std.proofs.Common.{codes, Some}
use Rattle.http_text.specs.Bodies.{version_text}
use Rattle.http_text.proofs.RoomLemmas.{puts_then}
use Rattle.http_text.proofs.stack_body.put_next.Goals as goal

pub returns-clause-puts : goal.returns-clause-puts
returns-clause-puts c = puts_then (codes ",") (version_text (Some c.args.version.now.ceased) c.args.version.now) c.put-at.ensures c.put_version.ensures.puts
