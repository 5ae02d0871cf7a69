use Rattle.std.proofs.Common.{◌∙◌, sym, ap, subst, Option, IsSome, rules}
use Rattle.turn_core.specs.Views.{StandsSince}
use Rattle.turn_core.specs.declared.view.Kept.{Kept}
use Rattle.turn_core.proofs.Ends.{last_counted, last_list, last_value}
use Rattle.turn_core.proofs.Parts.{some_same}
use Rattle.turn_core.proofs.turns.TicketLock+Held+T+Known+T+Snapshot+T+Law+T.close.Goals as goal

pub given_back-requires : goal.given_back-requires
given_back-requires g c =
    let p = c.args.pass in
    let r = c.requires.own.1.0 in
    let h = last_value g.T.Turned.stands c.args.self.table.shared.key.value p.seat.id p.seat.me.0 _ _ c.take-slot.result
    r.2 c.requires.share c.close_with-closed.ensures.values.2 c.take-slot.ensures.value in
    subst (λ (x : Option (Kept g.row.T.Denot g.row.T-Ask.Denot g.row.T-Say.Denot)). IsSome x) (sym h.1) (search rules)

pub returns-clause-value : goal.returns-clause-value
returns-clause-value g c =
    let p = c.args.pass in
    let r = c.requires.own.1.0 in
    let h = last_value g.T.Turned.stands c.args.self.table.shared.key.value p.seat.id p.seat.me.0 _ _ c.take-slot.result
    r.2 c.requires.share c.close_with-closed.ensures.values.2 c.take-slot.ensures.value in
    let b = c.given_back.ensures in
    subst (λ (x : g.row.T.Denot). StandsSince g.T.Turned.stands p.seat.me.0.opening x p.seat.me.0.seen)
    (ap (λ (k : Kept g.row.T.Denot g.row.T-Ask.Denot g.row.T-Say.Denot). k.value) (some_same h.0 b.0 (sym h.1 ∙ b.1)) ∙ sym b.2) h.2

pub returns-clause-whole : goal.returns-clause-whole
returns-clause-whole g c =
    let p = c.args.pass in
    last_list g.T.Turned.stands c.args.self.table.shared.key.value p.seat.id p.seat.me.0 _ _ c.requires.share c.requires.own.1.0.2 c.close_with-closed.ensures.values.2

pub returns-clause-counted : goal.returns-clause-counted
returns-clause-counted g c =
    let p = c.args.pass in
    last_counted g.T.Turned.stands c.args.self.table.shared.key.value p.seat.id p.seat.me.0 _ _ c.requires.own.1.0.3 c.close_with-closed.ensures.values.2
