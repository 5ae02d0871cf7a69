use Rattle.std.proofs.Common.{ap, ◌∙◌}
use Rattle.kept_replies.specs.Queue.{ReplyQueue, kept_in}
use Rattle.kept_replies.specs.Indexed.{found_at}
use Rattle.kept_replies.proofs.Indexes.{found_is}
use Rattle.kept_replies.proofs.replies.KeptReplies.find.Goals as goal

pub returns : goal.returns
returns c =
    let i = c.self.inside in
    c.reply_at.ensures
    ∙ ap (found_at i.dropped c.args.token.now i.queue.items) c.number_under-number.ensures
    ∙ found_is i.dropped i.numbers.entries c.args.token.now i.queue.items c.self.invariant.0
    ∙ ap (λ (q : ReplyQueue). kept_in c.args.token.now q.queue) c.self.view_is
