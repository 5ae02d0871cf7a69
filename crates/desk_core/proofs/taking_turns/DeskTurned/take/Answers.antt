use Rattle.desk_core.proofs.Turns.{reaches_on}
use Rattle.desk_core.proofs.taking_turns.DeskTurned.take.Goals as goal

pub returns : goal.returns
returns g c first calls path =
    let d = g.D.Disk in
    let k = g.C.Clock in
    reaches_on d k first c.args.self.now c.submit.new.self calls c.args.ask.now c.submit.result path c.submit.ensures.submits
