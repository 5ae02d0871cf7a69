use Rattle.std.proofs.Common.{arith}
use Rattle.turn_core.proofs.Draws.{draws}
use Rattle.turn_core.proofs.steps.draw_ticket.Goals as goal

pub fetch_add-requires : goal.fetch_add-requires
fetch_add-requires g c = (
  c.requires.table.0,
  omega (arith, c.requires.table.1),
  draws g.T.Turned.stands c.args.top.now.key.value c.args.top.now.table_id.slots c.args.place.now.id c.args.place.now.me c.requires.rest,
)
