use Rattle.std.proofs.Common.{◌≡◌, ◌⊎◌, ℕ, false, refl, sym, ◌∙◌, subst}
use Rattle.std.specs.Prelude.{IsTrue}
use Rattle.disk_core.proofs.Laws.{laws_of}
use Rattle.desk_core.specs.Damage.{OpenFailsOn}
use Rattle.desk_core.specs.Desk.{DeskView, IsReady}
use Rattle.desk_core.specs.Opening.{Opens}
use Rattle.desk_core.specs.Reading.{IsOpenable}
use Rattle.desk_core.proofs.Openable.{ready_openable, reads_ready}
use Rattle.desk_core.proofs.Opened.{opened, noted_ready}
use Rattle.desk_core.proofs.Rereading.{sound_never_fails}
use Rattle.desk_core.proofs.desk.Desk.open.Goals as goal

pub returns-in-Ok-clause-opens : goal.returns-in-Ok-clause-opens
returns-in-Ok-clause-opens g c =
    let d = g.D.Disk in
    let over = c.over-engine.result in
    let office = c.open.new.self in
    let engine = c.note_opening.new.self in
    let opens_over = opened (laws_of g.met.D.Disk) over office engine c.note_opening.ensures (c.open.ensures.stale ∙ c.over-engine.ensures.fresh)
    c.in-Ok.ensures.opens in
    let on_disk = subst (λ (x : g.row.D.Denot). Opens d x over.clock over.limit engine) c.over-engine.ensures.disk opens_over in
    let on_clock = subst (λ (x : g.row.C.Denot). Opens d c.args.disk x over.limit engine) c.over-engine.ensures.clock on_disk in
    subst (λ (n : ℕ). Opens d c.args.disk c.args.clock n engine) c.over-engine.ensures.limit on_clock

pub returns-in-Err-clause-sound : goal.returns-in-Err-clause-sound
returns-in-Err-clause-sound g c told sound =
    let d = g.D.Disk in
    let fails = subst (λ (x : g.row.D.Denot). OpenFailsOn c.in-Err.fault (d.state x)) c.over-engine.ensures.disk (c.in-Err.ensures.fails (g.met.D.Disk.honest_tells told)) in
    sound_never_fails (laws_of g.met.D.Disk) c.args.disk c.in-Err.fault told sound fails

pub invariant_of-result : goal.invariant_of-result
invariant_of-result g c =
    let d = g.D.Disk in
    let S : Type 0 = DeskView g.row.D.Denot g.row.C.Denot in
    let ready = reads_ready d g.met.D.Disk.honest_tells c.over-engine.result.disk c.open.new.self c.in-Ok.ensures.opens.reads in
    subst (λ (x : S). (x.stale ≡ false → IsReady d x) × (IsTrue d.honest → IsOpenable (d.state x.disk))) (sym c.note_opening.ensures)
    (λ _. noted_ready d c.open.new.self c.open.new.self.gate ready, λ tells. ready_openable d c.open.new.self tells ready)
