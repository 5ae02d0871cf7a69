use Rattle.std.proofs.Common.{arith}
use Rattle.class_rules.specs.Classes.{rank_of}
use Rattle.accrual.proofs.Bounds.{past_fits}
use Rattle.accrual.proofs.Prefixes.{past_is}
use Rattle.accrual.proofs.rows.Rows.past.Goals as goal

pub overflow_add-result : goal.overflow_add-result
overflow_add-result c =
    let f = past_fits c.args.self.now c.requires.sound.0 c.args.month c.args.class c.kept-kept.result c.args.before c.requires.sound.1 c.kept-kept.ensures c.requires.before in
    omega (arith, f.running)

pub overflow_add-result-2 : goal.overflow_add-result-2
overflow_add-result-2 c =
    let f = past_fits c.args.self.now c.requires.sound.0 c.args.month c.args.class c.kept-kept.result c.args.before c.requires.sound.1 c.kept-kept.ensures c.requires.before in
    omega (arith, f.arrived)

pub overflow_add-result-3 : goal.overflow_add-result-3
overflow_add-result-3 c =
    let f = past_fits c.args.self.now c.requires.sound.0 c.args.month c.args.class c.kept-kept.result c.args.before c.requires.sound.1 c.kept-kept.ensures c.requires.before in
    omega (arith, f.departed)

pub returns : goal.returns
returns c = past_is c.args.self.now c.args.month (rank_of c.args.class) c.args.before c.kept-kept.result c.kept-kept.ensures c.requires.before
