use Rattle.std.proofs.Common.{arith}
use Rattle.generator.proofs.Made.{counted_all}
use Rattle.generator.proofs.Standing.{gate_small}
use Rattle.generator.specs.Generated.{progress}
use Rattle.generator.proofs.work.Work.end.Goals as goal

pub overflow_add-result : goal.overflow_add-result
overflow_add-result c =
    let work = c.args.self in
    let history = (progress work.number work.place.made).accepted in
    let holds = c.requires.work.stands.holds.journal in
    let kept = c.in_ok-kept.ensures work.number work.place.made c.requires.made c.requires.work.stands in
    omega (arith, kept.position (omega arith), holds.end, gate_small history work.desk.gate holds.end holds.small)

pub returns : goal.returns
returns c =
    let work = c.args.self in
    let number = work.number in
    let made = work.place.made in
    counted_all number made work.answers c.in_ok-kept.kept c.requires.work.answers (c.in_ok-kept.ensures number made c.requires.made c.requires.work.stands)
