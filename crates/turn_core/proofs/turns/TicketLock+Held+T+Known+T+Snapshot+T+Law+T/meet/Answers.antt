use Rattle.std.proofs.Common.{arith}
use Rattle.turn_core.proofs.Meets.{meets, is_joined, still_whole_list}
use Rattle.turn_core.proofs.turns.TicketLock+Held+T+Known+T+Snapshot+T+Law+T.meet.Goals as goal

pub join_seat-requires : goal.join_seat-requires
join_seat-requires g c =
    let a = c.args.pass.now in
    let b = c.args.other in
    let r = c.requires.fellow.1.0 in (
      c.requires.own.0,
      c.requires.fellow.0,
      r.0,
      omega (arith, c.args.self.now.sized.0),
      meets g.T.Turned.stands c.args.self.now.table.shared.key.value a.seat.id b.seat.id a.seat.me b.seat.me c.requires.own.1.0 r,
    )

pub returns-clause-met : goal.returns-clause-met
returns-clause-met g c =
    is_joined g.T.Turned.stands c.args.pass.now.seat.me c.join_seat.new.seat.me c.look_back.new.place.me c.args.other.seat.me c.join_seat.ensures.2 c.look_back.ensures.learned

pub returns-clause-whole : goal.returns-clause-whole
returns-clause-whole g c = still_whole_list g.T.Turned.stands c.join_seat.new.seat.me c.look_back.new.place.me c.look_back.ensures.learned
