use Rattle.disk_core.proofs.Laws.{laws_of}
use Rattle.generator.proofs.Standing.{asked, asked_once}
use Rattle.generator.proofs.work.ask.Goals as goal

pub returns-in-Ok-clause-answers : goal.returns-in-Ok-clause-answers
returns-in-Ok-clause-answers g c tells history holds fresh =
    asked (laws_of g.met.D.Disk) tells history c.args.desk.now c.submit.new.self c.args.ask.now c.in-Ok.said
    fresh c.in-Ok.ensures.submits.stale holds c.in-Ok.ensures.submits.stands

pub returns-in-Ok-clause-once : goal.returns-in-Ok-clause-once
returns-in-Ok-clause-once g c fresh =
    asked_once (laws_of g.met.D.Disk) g.C.Clock c.args.desk.now c.submit.new.self c.args.ask.now c.in-Ok.said
    fresh c.in-Ok.ensures.submits.causes
