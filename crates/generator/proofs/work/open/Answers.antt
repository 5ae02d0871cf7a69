use Rattle.disk_core.proofs.Laws.{laws_of}
use Rattle.std.proofs.Common.{[]}
use Rattle.desk_core.proofs.Standing.{fits_same}
use Rattle.generator.proofs.Standing.{opened_empty}
use Rattle.generator.proofs.work.open.Goals as goal

pub returns-in-Ok-clause-holds : goal.returns-in-Ok-clause-holds
returns-in-Ok-clause-holds g c tells fit =
    let d = g.D.Disk in
    let made = (c.create.ensures.any_moment tells).now in
    opened_empty (laws_of g.met.D.Disk) c.create.new.disk c.args.clock 1_073_741_824 c.in-Ok.desk
    tells (c.in-Ok-Now.ensures.now tells c.in-Ok-Now.field-0-is).1
    (fits_same (d.state c.args.disk) (d.state c.create.new.disk) [] (made.slot0, made.slot1) fit) c.in-Ok.ensures.opens
