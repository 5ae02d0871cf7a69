use Rattle.std.proofs.Common.{arith}
use Rattle.turn_core.proofs.Meets.{learns}
use Rattle.turn_core.proofs.steps.look_back.Goals as goal

pub load-requires : goal.load-requires
load-requires g c = (
  c.requires.table.0,
  omega (arith, c.requires.table.1),
  learns g.T.Turned.stands c.args.top.now.key.value c.args.top.now.table_id.slots c.args.place.now.id c.args.place.now.me c.requires.rest,
)
