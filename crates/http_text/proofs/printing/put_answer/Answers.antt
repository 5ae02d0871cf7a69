use Rattle.http_text.specs.Replies.{body_text, status_of}
use Rattle.http_text.proofs.RoomLemmas.{puts_same}
use Rattle.http_text.proofs.Statuses.{status_low}
use Rattle.http_text.proofs.Whole.{whole, reply_small, answer_is, short_in_parts}
use Rattle.http_text.proofs.printing.put_answer.Goals as goal

pub returns-clause-puts : goal.returns-clause-puts
returns-clause-puts c =
    let answer = c.args.answer.now in
    puts_same _ _ (answer_is answer (short_in_parts answer c.requires.short))
    (whole (status_of answer) c.size_of.result (body_text answer) c.size_of.ensures.same (rw c.status.ensures at c.put_head-at.ensures) c.put_body.ensures.puts)

pub returns-clause-small : goal.returns-clause-small
returns-clause-small c =
    let answer = c.args.answer.now in
    let low = status_low answer in
    rw (answer_is answer (short_in_parts answer c.requires.short)) at (reply_small (status_of answer) (body_text answer) low.0 low.1 c.size_of.ensures.small)
