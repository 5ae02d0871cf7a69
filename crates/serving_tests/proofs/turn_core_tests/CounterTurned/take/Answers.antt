use Rattle.turn_core.proofs.Tallies.{tallied}
use Rattle.std.proofs.Common.{refl}
use Rattle.serving_tests.proofs.turn_core_tests.CounterTurned.take.Goals as goal

pub returns : goal.returns
returns c first calls h small = tallied first.count c.args.self.now.count _ calls c.args._ask.now refl h small
