use Rattle.std.proofs.Common.{arith}
use Rattle.turn_core.proofs.MovesOn.{moves}
use Rattle.turn_core.proofs.steps.move_on.Goals as goal

pub fetch_add-ended-requires : goal.fetch_add-ended-requires
fetch_add-ended-requires g c =
    let h = c.requires.holds in (
      c.requires.table.0,
      omega (arith, c.requires.table.1),
      moves g.T.Turned.stands c.args.top.now.key.value c.args.top.now.table_id.slots c.args.place.now.id c.args.place.now.me h.0 h.1 c.requires.served h.2 h.3 h.4,
    )
