use Rattle.std.proofs.Common.{◌≡◌, Bool, false, IsTrue, ◌∷◌, [], ◌++◌, Err, inl, inr, sym, ◌∙◌, subst}
use Rattle.std.proofs.lemmas.Bool.{both_ways}
use Rattle.disk_core.specs.declared.disk.Disk as disks
use Rattle.disk_core.specs.declared.disk.FileNo.TheVariants.{Journal}
use Rattle.disk_core.proofs.Laws.{laws_of}
use Rattle.desk_core.specs.Answers.{Call}
use Rattle.desk_core.specs.Submitting.{IsOffice, HasCauses}
use Rattle.desk_core.specs.Desk.{DeskView, IsReady, StandsFor, GoesOn, TellsFault, stale_after}
use Rattle.desk_core.specs.Reading.{IsOpenable}
use Rattle.desk_core.specs.declared.fault.DeskFault.TheVariants.{Broken}
use Rattle.checkpoint.proofs.BodyLaws.{one_value}
use Rattle.meter_journal.specs.declared.fault.OpenFault.{OpenFault}
use Rattle.desk_core.proofs.Openable.{narrower_openable, reads_ready}
use Rattle.desk_core.proofs.Reopened.{unopened_call, asked_call, answer_err, openable_unbroken}
use Rattle.desk_core.proofs.Standing.{marked_ready}
use Rattle.desk_core.proofs.Submitted.{fresh_after, marked_causes, asked_told, unopened_told}
use Rattle.desk_core.proofs.desk.Desk.answer_current.Goals as goal

-- the office that answers is ready
office_ready : {D C : Type 0} (d : disks.Ghosts D) (honest_tells : IsTrue d.honest → IsTrue d.tells) (old office : DeskView D C) → (old.stale ≡ false → IsReady d old) → IsOffice d old office → IsReady d office
office_ready {D} {C} d honest_tells old office ready (inl (fresh, same)) = subst (λ (x : DeskView D C). IsReady d x) (sym same) (ready fresh)
office_ready d honest_tells old office ready (inr (stale, again)) = reads_ready d honest_tells old.disk office again.reads

pub answer_now-said-requires : goal.answer_now-said-requires
answer_now-said-requires g c = record {
  ready = office_ready g.D.Disk g.met.D.Disk.honest_tells c.self.inside.engine c.refresh.new.self c.self.invariant.0 c.in_default.ensures.office;
}

pub returns-in-Err-clause-stands : goal.returns-in-Err-clause-stands
returns-in-Err-clause-stands g c opened calls stands =
    let d = g.D.Disk in
    let laws = laws_of g.met.D.Disk in
    let S : Type 0 = DeskView g.row.D.Denot g.row.C.Denot in
    let new = c.refresh.new.self in
    let call : Call = record { ask = c.args.ask.now; said = Err c.in-Err.fault } in
    let s = subst (λ (x : S). StandsFor d opened calls x) (sym c.self.view_is) stands in
    subst (λ (x : S). GoesOn d opened (calls ++ call ∷ []) x.disk new) c.self.view_is
    (unopened_call laws c.self.inside.engine
    opened calls s c.args.ask.now new c.in-Err.fault (unbroken s.tells) c.refresh.ensures.stale c.in-Err.ensures.unopened)
  where
    unbroken : IsTrue g.D.Disk.honest → (at : OpenFault) → answer_err c.in-Err.fault ≡ answer_err (Broken at) → ⊥
    unbroken tells at is = openable_unbroken one_value g.D.Disk g.met.D.Disk.honest_tells c.self.inside.engine c.refresh.new.self c.in-Err.fault at
        (g.met.D.Disk.reads_image tells c.self.inside.engine.disk Journal) c.in-Err.ensures.unopened tells (c.self.invariant.1 tells) is

pub returns-clause-stands : goal.returns-clause-stands
returns-clause-stands g c opened calls stands =
    let d = g.D.Disk in
    let laws = laws_of g.met.D.Disk in
    let S : Type 0 = DeskView g.row.D.Denot g.row.C.Denot in
    let desk = c.self.inside.engine in
    let new = c.answer_now-said.new.self in
    let said = c.answer_now-said.result in
    let call : Call = record { ask = c.args.ask.now; said = said } in
    let s = subst (λ (x : S). StandsFor d opened calls x) (sym c.self.view_is) stands in
    let goes = asked_call laws desk opened calls s c.args.ask.now c.refresh.new.self new
    (g.C.Clock.last new.clock) said c.in_default.ensures.office c.answer_now-said.ensures.limit c.answer_now-said.ensures.disk_later c.answer_now-said.ensures.asks in
    let marked = subst (λ (b : Bool). GoesOn d opened (calls ++ call ∷ []) desk.disk (record new { stale = stale_after b said })) (sym c.stale-was_stale.ensures) goes in
    subst (λ (x : S). GoesOn d opened (calls ++ call ∷ []) x.disk c.mark.new.self) c.self.view_is
    (subst (λ (x : S). GoesOn d opened (calls ++ call ∷ []) desk.disk x) (sym c.mark.ensures) marked)

pub returns-clause-causes : goal.returns-clause-causes
returns-clause-causes g c =
    let d = g.D.Disk in
    let k = g.C.Clock in
    let S : Type 0 = DeskView g.row.D.Denot g.row.C.Denot in
    let office = c.refresh.new.self in
    let new = c.answer_now-said.new.self in
    let said = c.answer_now-said.result in
    let tells = marked_causes d k office new c.args.ask.now said (stale_after c.stale-was_stale.result said) c.answer_now-said.ensures.tells in
    inr (
      office,
      subst (λ (x : S). IsOffice d x office) c.self.view_is c.in_default.ensures.office,
      subst (λ (x : S). HasCauses d k office c.args.ask.now said x) (sym c.mark.ensures) tells,
    )

pub returns-in-Err-clause-not_broken : goal.returns-in-Err-clause-not_broken
returns-in-Err-clause-not_broken g c tells fault is =
    let d = g.D.Disk in
    openable_unbroken one_value d g.met.D.Disk.honest_tells c.self.inside.engine c.refresh.new.self c.in-Err.fault fault (g.met.D.Disk.reads_image tells c.self.inside.engine.disk Journal) c.in-Err.ensures.unopened tells
    (c.self.invariant.1 tells) is

pub returns-in-Err-clause-cause : goal.returns-in-Err-clause-cause
returns-in-Err-clause-cause g c =
    let d = g.D.Disk in
    let S : Type 0 = DeskView g.row.D.Denot g.row.C.Denot in
    let new = c.refresh.new.self in
    subst (λ (x : S). TellsFault (Err c.in-Err.fault) (d.fault_count x.disk) (d.fault_count new.disk)) c.self.view_is
    (unopened_told d c.self.inside.engine.disk new.disk (Err c.in-Err.fault) c.in-Err.ensures.unopened.why)

pub returns-clause-cause : goal.returns-clause-cause
returns-clause-cause g c =
    let d = g.D.Disk in
    let S : Type 0 = DeskView g.row.D.Denot g.row.C.Denot in
    let office = c.refresh.new.self in
    let new = c.answer_now-said.new.self in
    let said = c.answer_now-said.result in
    let told = asked_told d c.self.inside.engine office c.args.ask.now said (d.fault_count new.disk) c.in_default.ensures.office c.answer_now-said.ensures.tells.reason in
    subst (λ (x : S). TellsFault said (d.fault_count x.disk) (d.fault_count c.mark.new.self.disk)) c.self.view_is
    (subst (λ (x : S). TellsFault said (d.fault_count c.self.inside.engine.disk) (d.fault_count x.disk)) (sym c.mark.ensures) told)

pub invariant_of-self : goal.invariant_of-self
invariant_of-self g c =
    let d = g.D.Disk in (
      λ fresh. absurd (both_ways c.self.inside.engine.stale (sym c.refresh.ensures.stale ∙ fresh) c.in-Err.ensures.unopened.is_stale),
      λ tells. narrower_openable (d.state c.self.inside.engine.disk) (d.state c.refresh.new.self.disk) (c.self.invariant.1 tells) (c.in-Err.ensures.any_moment tells).now,
    )

pub invariant_of-self-2 : goal.invariant_of-self-2
invariant_of-self-2 g c =
    let d = g.D.Disk in
    let S : Type 0 = DeskView g.row.D.Denot g.row.C.Denot in
    let answered = c.answer_now-said.ensures in
    let stale = stale_after c.stale-was_stale.result c.answer_now-said.result in
    subst (λ (x : S). (x.stale ≡ false → IsReady d x) × (IsTrue d.honest → IsOpenable (d.state x.disk))) (sym c.mark.ensures) (
      λ fresh. marked_ready d c.answer_now-said.new.self stale (answered.ready (fresh_after c.stale-was_stale.result c.answer_now-said.result fresh)),
      answered.openable,
    )
