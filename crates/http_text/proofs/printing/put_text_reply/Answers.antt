use Rattle.http_text.proofs.RoomLemmas.{puts_then}
use Rattle.http_text.proofs.printing.put_text_reply.Goals as goal

pub returns : goal.returns
returns c = puts_then _ c.args.body.now c.put_head_with-at.ensures c.put.ensures
