use Rattle.std.proofs.Common.{◌∙◌}
use Rattle.turn_core.proofs.Whole.{served_from}
use Rattle.turn_core.proofs.steps.wait_for.Goals as goal

pub returns-then-found-ticket-clause-served : goal.returns-then-found-ticket-clause-served
returns-then-found-ticket-clause-served g c =
    let mine = c.requires.waits.2 in
    served_from g.T.Turned.stands c.args.place.now.me c.loop.place.me c.look_once-found.new.place.me mine.0 c.look_once-found.result c.loop.invariant.4 mine.2
    (c.if-found-ticket.true ∙ mine.1) c.look_once-found.ensures.served
