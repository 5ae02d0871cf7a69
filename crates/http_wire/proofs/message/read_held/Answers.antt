use Rattle.std.proofs.Common.{◌≡◌, ap, Err}
use Rattle.http_wire.proofs.MessageLemmas.{held_told, held_short, gap_told, by_frame}
use Rattle.http_wire.proofs.message.read_held.Goals as goal

pub returns-in-Ok-clause-tells : goal.returns-in-Ok-clause-tells
returns-in-Ok-clause-tells g c =
    let left = g.R.Source.left in
    held_told c.args.buffer.now c.fill_to.new.buffer (left c.args.source.now) (left c.fill_to.new.source) c.args.head c.args.size c.args.last c.args.token c.requires.frame
    c.in-Ok.ensures.took c.in-Ok.ensures.spans c.in-Ok.ensures.ok

pub returns-in-Ok-clause-settled : goal.returns-in-Ok-clause-settled
returns-in-Ok-clause-settled g c settled =
    by_frame c.args.buffer.now c.args.head c.args.size c.args.last c.args.token (c.fill_to.new.source ≡ c.args.source.now) c.requires.frame c.in-Ok.ensures.settled settled

pub returns-in-Err-clause-tells : goal.returns-in-Err-clause-tells
returns-in-Err-clause-tells g c =
    let left = g.R.Source.left in
    gap_told c.in-Err.gap c.short_of.result c.args.buffer.now c.fill_to.new.buffer (left c.args.source.now) (left c.fill_to.new.source)
    c.short_of.ensures.ended c.short_of.ensures.stopped (λ is. c.in-Err.ensures.end (ap Err is)) (λ is. c.in-Err.ensures.spent (ap Err is)) (λ is. c.in-Err.ensures.enough (ap Err is))
    (held_short c.args.buffer.now c.fill_to.new.buffer (left c.args.source.now) (left c.fill_to.new.source) c.args.head c.args.size c.args.last c.args.token c.requires.frame
    c.in-Err.ensures.took c.in-Err.ensures.spans c.in-Err.ensures.err)

pub returns-in-Err-clause-settled : goal.returns-in-Err-clause-settled
returns-in-Err-clause-settled g c settled =
    by_frame c.args.buffer.now c.args.head c.args.size c.args.last c.args.token (c.fill_to.new.source ≡ c.args.source.now) c.requires.frame c.in-Err.ensures.settled settled
