use Rattle.std.proofs.Common.{◌≡◌, length, rules, arith}
use Rattle.std.proofs.lemmas.Grind.{common_steps}
use Rattle.turn_core.specs.Calls.{calls_under}
use Rattle.turn_core.specs.Passes.{view}
use Rattle.turn_core.proofs.Tallies.{three_and_one}
use Rattle.serving_tests.proofs.turn_core_tests.three_and_one.Goals as goal

pub returns-clause-all : goal.returns-clause-all
returns-clause-all g c =
    let first : length (calls_under 0 (view c.meet.new.pass).seen) ≡ 3 = search rules in
    let second : length (calls_under 1 (view c.meet.new.pass).seen) ≡ 1 = grind (arith, common_steps) in
    let list = three_and_one (view c.args.pass.now) (view c.turn-first.new.pass) (view c.turn-second.new.pass)
    (view c.turn-third.new.pass) (view c.split-other.new.pass) (view c.split-other.result)
    (view c.turn-fourth.new.pass) (view c.meet.new.pass)
    _ c.requires.new c.turn-first.ensures.called.others c.turn-second.ensures.called.others
    c.turn-third.ensures.called.others c.split-other.ensures.old c.split-other.ensures.new
    c.turn-fourth.ensures.called.others c.meet.ensures.met.both c.meet.ensures.whole in
    omega (arith, first, second, list)
