use Rattle.std.proofs.Common.{arith}
use Rattle.turn_core.proofs.Looks.{looks}
use Rattle.turn_core.proofs.steps.look_once.Goals as goal

pub load-requires : goal.load-requires
load-requires g c = (
  c.requires.table.0,
  omega (arith, c.requires.table.1),
  looks g.T.Turned.stands c.args.top.now.key.value c.args.top.now.table_id.slots c.args.place.now.id c.args.place.now.me c.requires.waits.0 c.requires.waits.1 c.requires.waits.2,
)

pub returns-clause-served : goal.returns-clause-served
returns-clause-served g c t mine hit = (c.load.ensures.2 t mine).0 hit
