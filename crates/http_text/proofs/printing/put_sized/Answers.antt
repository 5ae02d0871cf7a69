use Rattle.http_text.specs.Replies.{body_text, head_text, status_of}
use Rattle.http_text.proofs.RoomLemmas.{puts_then}
use Rattle.http_text.proofs.printing.put_sized.Goals as goal

pub returns : goal.returns
returns c =
    let answer = c.args.answer.now in
    puts_then (head_text (status_of answer) c.args.size) (body_text answer) (rw c.status.ensures at c.put_head-at.ensures) c.put_body.ensures.puts
