use Rattle.turn_core.proofs.Whole.{holds_value, may_move, rests, is_called, is_counted, lawful_at_end}
use Rattle.turn_core.proofs.steps.take_turn.Goals as goal

pub call-say-requires-clause-holds : goal.call-say-requires-clause-holds
call-say-requires-clause-holds g c = holds_value g.T.Turned.stands c.draw_ticket-ticket.new.place.me c.wait_for.new.place.me c.wait_for.ensures.served

pub move_on-requires-clause-holds : goal.move_on-requires-clause-holds
move_on-requires-clause-holds g c =
    let h = c.call-say.ensures.called in
    may_move g.T.Turned.stands c.wait_for.new.place.me c.call-say.new.place.me h.0 h.1 c.call-say.ensures.view h.2 h.3 h.6

pub returns-clause-rest : goal.returns-clause-rest
returns-clause-rest g c =
    let h = c.call-say.ensures.called in
    let d = c.draw_ticket-ticket.ensures.drawn in
    rests g.T.Turned.stands c.args.place.now.me c.draw_ticket-ticket.new.place.me c.wait_for.new.place.me c.call-say.new.place.me c.move_on.new.place.me d.0 h.0 h.1
    c.args.ask.now c.call-say.result c.requires.rest d.2 c.wait_for.ensures.served c.call-say.ensures.view h.2 h.3 h.4 h.5 c.move_on.ensures.called

pub returns-clause-called : goal.returns-clause-called
returns-clause-called g c =
    let h = c.call-say.ensures.called in
    let d = c.draw_ticket-ticket.ensures.drawn in
    is_called g.T.Turned.stands c.args.place.now.me c.draw_ticket-ticket.new.place.me c.wait_for.new.place.me c.call-say.new.place.me c.move_on.new.place.me d.0 h.0 h.1
    c.args.ask.now c.call-say.result c.requires.rest d.2 c.wait_for.ensures.served c.call-say.ensures.view h.2 h.3 h.4 h.5 c.move_on.ensures.called

pub returns-clause-counted : goal.returns-clause-counted
returns-clause-counted g c =
    let h = c.call-say.ensures.called in
    let d = c.draw_ticket-ticket.ensures.drawn in
    is_counted g.T.Turned.stands c.args.place.now.me c.draw_ticket-ticket.new.place.me c.wait_for.new.place.me c.call-say.new.place.me c.move_on.new.place.me d.0 h.0 h.1
    c.args.ask.now c.call-say.result c.requires.rest d.2 c.wait_for.ensures.served c.call-say.ensures.view h.2 h.3 h.4 h.5 c.move_on.ensures.called

pub returns-clause-lawful : goal.returns-clause-lawful
returns-clause-lawful g c =
    let h = c.call-say.ensures.called in
    let d = c.draw_ticket-ticket.ensures.drawn in
    lawful_at_end g.T.Turned.stands c.args.place.now.me c.draw_ticket-ticket.new.place.me c.wait_for.new.place.me c.call-say.new.place.me c.move_on.new.place.me d.0 h.0 h.1
    c.args.ask.now c.call-say.result c.requires.rest d.2 c.wait_for.ensures.served c.call-say.ensures.view h.2 h.3 h.4 h.5 c.move_on.ensures.called h.6
    g.T.Turned.lawful g.met.T.Turned.is_lawful
