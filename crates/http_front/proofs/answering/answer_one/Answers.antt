use Rattle.std.proofs.Common.{◌+◌, length, ap, refl, Ok, Err}
use Rattle.std.specs.Io.KnownBytes.{prepend_known}
use Rattle.http_wire.specs.declared.message.MessageStop.TheVariants as stops
use Rattle.http_front.specs.Counts.{total_of}
use Rattle.http_front.specs.Session.{sides}
use Rattle.http_front.specs.declared.answering.SessionEnd.TheVariants as ends
use Rattle.http_front.proofs.TalkLemmas.{ahead_here, last_stop, under_limit, unspent_here, held_back, spent_here, begun_here, went_on, went_end, reads_nothing, reads_on, same_err}
use Rattle.http_front.proofs.answering.answer_one.Goals as goal

pub returns-in-Ok-clause-goes_on : goal.returns-in-Ok-clause-goes_on
returns-in-Ok-clause-goes_on g c =
    let left = g.R.Source.left in
    let before = prepend_known c.args.reader.now.bytes (left c.args.source.now) in
    let after = prepend_known c.next.new.self.bytes (left c.next.new.source) in
    let total = total_of c.args.reader.now.taken (left c.args.source.now) in
    went_on g.T.Teller.moves g.W.Replies (left c.next.new.source) (sides c.args.teller.now c.args.out.now) (sides c.answer_heard.new.teller c.answer_heard.new.out) before after total
    c.answer_heard.result
    (c.answer_heard.ensures.went before after (left c.next.new.source) total c.in-Ok.ensures.tells (λ is.
    let end = c.in-Ok.ensures.at_end (ap Ok is) in
    under_limit c.args.reader.now.taken c.next.new.self.taken (left c.args.source.now) (left c.next.new.source) c.in-Ok.ensures.given end.0 end.1)
    (unspent_here c.args.reader.now c.next.new.self (left c.args.source.now) (left c.next.new.source) c.in-Ok.ensures.enough c.next.ensures.limit)
    (ahead_here c.args.reader.now c.next.new.self (left c.args.source.now) (left c.next.new.source) c.in-Ok.ensures.given c.next.ensures.ahead)
    (held_back c.in-Ok.heard c.next.new.self (left c.next.new.source) c.in-Ok.ensures.short))

pub returns-in-Ok-clause-session : goal.returns-in-Ok-clause-session
returns-in-Ok-clause-session g c =
    let left = g.R.Source.left in
    let before = prepend_known c.args.reader.now.bytes (left c.args.source.now) in
    let after = prepend_known c.next.new.self.bytes (left c.next.new.source) in
    let total = total_of c.args.reader.now.taken (left c.args.source.now) in
    went_end g.T.Teller.moves g.W.Replies (left c.next.new.source) (sides c.args.teller.now c.args.out.now) (sides c.answer_heard.new.teller c.answer_heard.new.out) before after total
    c.answer_heard.result
    (c.answer_heard.ensures.went before after (left c.next.new.source) total c.in-Ok.ensures.tells (λ is.
    let end = c.in-Ok.ensures.at_end (ap Ok is) in
    under_limit c.args.reader.now.taken c.next.new.self.taken (left c.args.source.now) (left c.next.new.source) c.in-Ok.ensures.given end.0 end.1)
    (unspent_here c.args.reader.now c.next.new.self (left c.args.source.now) (left c.next.new.source) c.in-Ok.ensures.enough c.next.ensures.limit)
    (ahead_here c.args.reader.now c.next.new.self (left c.args.source.now) (left c.next.new.source) c.in-Ok.ensures.given c.next.ensures.ahead)
    (held_back c.in-Ok.heard c.next.new.self (left c.next.new.source) c.in-Ok.ensures.short))

pub returns-in-Err-clause-session : goal.returns-in-Err-clause-session
returns-in-Err-clause-session g c =
    let left = g.R.Source.left in
    last_stop g.T.Teller.moves g.W.Replies (left c.next.new.source) c.args.teller.now c.args.out.now c.say_stop.new.out
    (prepend_known c.args.reader.now.bytes (left c.args.source.now)) (total_of c.args.reader.now.taken (left c.args.source.now)) c.in-Err.stop c.say_stop.result
    (ahead_here c.args.reader.now c.next.new.self (left c.args.source.now) (left c.next.new.source) c.in-Err.ensures.given c.next.ensures.ahead)
    c.say_stop.ensures.said c.say_stop.ensures.read_fault c.say_stop.ensures.spent
    (λ is.
    let spent = c.in-Err.ensures.spent (ap Err is) in
    spent_here c.args.reader.now c.next.new.self (left c.args.source.now) (left c.next.new.source) spent.1 spent.0)
    (λ is. begun_here c.args.reader.now c.next.new.self (left c.args.source.now) (left c.next.new.source) (c.in-Err.ensures.failed (ap Err is)))

pub returns-in-Ok-clause-uses : goal.returns-in-Ok-clause-uses
returns-in-Ok-clause-uses g c =
    let left = g.R.Source.left in
    c.answer_heard.ensures.item (prepend_known c.args.reader.now.bytes (left c.args.source.now)) (prepend_known c.next.new.self.bytes (left c.next.new.source))
    (c.args.reader.now.taken + length c.next.new.self.bytes) (c.next.new.self.taken + length c.args.reader.now.bytes) c.in-Ok.ensures.tells c.in-Ok.ensures.uses

pub returns-in-Err-clause-only_reads : goal.returns-in-Err-clause-only_reads
returns-in-Err-clause-only_reads g c =
    let at = c.args.source.now in
    reads_on g.R.Source at at c.next.new.source (reads_nothing g.R.Source at) c.in-Err.ensures.only_reads
    (λ is. ap Err (c.say_stop.ensures.read_only (same_err (Err c.say_stop.result) c.say_stop.result ends.ReadFault refl is)))
    (λ is. ap Err (c.say_stop.ensures.read_fault (same_err (Err c.in-Err.stop) c.in-Err.stop stops.ReadFault refl is)).0)
