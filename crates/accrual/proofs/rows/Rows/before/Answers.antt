use Rattle.std.proofs.Common.{arith}
use Rattle.class_rules.specs.Classes.{rank_of}
use Rattle.accrual.proofs.Prefixes.{none_is, whole_is}
use Rattle.accrual.proofs.rows.Rows.before.Goals as goal

pub loop-earlier-init : goal.loop-earlier-init
loop-earlier-init c = (none_is c.args.self.now (rank_of c.args.class) c.args.self.now.first (omega arith), omega arith)

pub returns : goal.returns
returns c = whole_is c.args.self.now c.args.month c.loop-earlier.earlier (rank_of c.args.class) c.loop-earlier.sums (omega arith) (omega arith) c.loop-earlier.invariant.0
