use Rattle.std.proofs.Common.{arith}
use Rattle.turn_core.proofs.Splits.{splits}
use Rattle.turn_core.proofs.turns.TicketLock+Held+T+Known+T+Snapshot+T+Law+T.split.Goals as goal

pub split_seat-seat-requires : goal.split_seat-seat-requires
split_seat-seat-requires g c =
    let p = c.args.pass.now in
    let r = c.requires.own.1.0 in (
      c.requires.own.0,
      omega (arith, c.args.self.now.sized.0),
      splits g.T.Turned.stands c.args.self.now.table.shared.key.value p.seat.id p.seat.me.0 r.1 r.2 c.requires.share,
    )
