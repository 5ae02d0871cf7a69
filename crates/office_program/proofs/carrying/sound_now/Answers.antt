use Rattle.disk_core.proofs.Laws.{laws_of}
use Rattle.disk_core.proofs.Time.{started}
use Rattle.disk_core.specs.Fronts.{Narrower}
use Rattle.desk_core.specs.Histories.{IsSound}
use Rattle.desk_core.proofs.Rereading.{sound_reads}
use Rattle.office_program.proofs.Surviving.{narrower_same}
use Rattle.office_program.proofs.carrying.sound_now.Goals as goal

pub returns-clause-reads : goal.returns-clause-reads
returns-clause-reads g c tells sound = sound_reads (laws_of g.met.D.Disk) c.args.disk.now tells sound

pub returns-clause-still : goal.returns-clause-still
returns-clause-still g c tells sound =
    let d = g.D.Disk in
    started d c.args.disk.now IsSound (g.met.D.Disk.only_now c.args.disk.now) sound

pub returns-clause-left : goal.returns-clause-left
returns-clause-left g c =
    let d = g.D.Disk in
    started d c.args.disk.now (Narrower (d.state c.args.disk.now)) (g.met.D.Disk.only_now c.args.disk.now) (narrower_same (d.state c.args.disk.now))
