use Rattle.std.proofs.Common.{◌≡◌, ℕ, List, Result, Ok, Err, ◌∙◌, refl, sym, ap, subst, arith}
use Rattle.std.specs.Prelude.{IsTrue, IfErr}
use Rattle.disk_core.proofs.Time.{then_untouched}
use Rattle.disk_core.specs.Files.{State, File}
use Rattle.disk_core.specs.Fronts.{Narrower}
use Rattle.disk_core.specs.Moments.{KeepsTo, OnlyReads, Untouched}
use Rattle.disk_core.specs.declared.disk.FileNo.TheVariants.{Journal}
use Rattle.meter_journal.specs.Reading.{HeadGives}
use Rattle.office_machine.specs.Once.{OfficeView}
use Rattle.desk_core.specs.Damage.{HasReplayed, ReplayFails, OpenFailsOn}
use Rattle.desk_core.specs.Rereading.{BeginsOn}
use Rattle.desk_core.specs.Submitting.{Reopens}
use Rattle.desk_core.specs.Desk.{DeskView}
use Rattle.desk_core.proofs.Opened.{reads_on, on_quiet, on_fault, narrowed_on, narrowed_still, head_fails, other_fails, replay_fails}
use Rattle.desk_core.proofs.engine.Engine.open.Goals as goal

pub returns-clause-opens : goal.returns-clause-opens
returns-clause-opens g c =
    let d = g.D.Disk in
    let P : Type 0 = DeskView g.row.D.Denot g.row.C.Denot in
    let inside = c.self.inside in
    let lent = c.disk_mut.ensures.value in
    let mid = c.beginning.new.disk in
    let begun = c.open.new.self in
    let first = c.put_office.new.place in
    let from = c.in-Ok.beginning.from in
    let journal = c.replay.new.journal in
    let office : P = record { disk = journal.disk; clock = inside.clock; office = c.replay.new.office; gate = journal.gate; opened_at = inside.opened_at; limit = journal.limit; stale = inside.stale } in
    let begins = subst (λ (o : OfficeView). BeginsOn d inside.journal.disk o from) (sym c.put_office.ensures) (subst (λ (x : g.row.D.Denot). BeginsOn d x c.in-Ok.beginning.office from) lent c.in-Ok.ensures.begins) in
    on_quiet c.replay.result (λ none read. subst (λ (s : P). Reopens d s office) c.self.view_is (record {
      reads = reads_on g.met.D.Disk.honest_tells inside.journal.disk mid begun.disk office
          (subst (λ (x : g.row.D.Denot). OnlyReads d x mid) lent c.beginning.ensures.untouched) c.replay.ensures.untouched c.in-Ok-open.ensures.writes
          first from begins (subst (λ (k : ℕ). HasReplayed d first k begun.disk journal.gate c.replay.new.office) c.in-Ok-open.ensures.start read)
          (omega (arith, c.self.invariant, c.replay.ensures.limit, c.in-Ok-open.ensures.limit))
          (λ tells. ((c.in-Ok-open.ensures.ok tells).0, c.in-Ok-open.ensures.reads tells (λ is. absurd cc) Journal))
          c.in-Ok-open.ensures.synced c.in-Ok-open.ensures.any_moment
          (c.replay.ensures.cause.quiet none ∙ c.in-Ok-open.ensures.cause.quiet (λ is. absurd cc) ∙ c.in-Ok.ensures.cause.quiet (λ is. absurd cc) ∙ ap d.fault_count lent);
      clock = refl;
      limit = c.replay.ensures.limit ∙ c.in-Ok-open.ensures.limit;
      opened_at = refl;
    })) c.replay.ensures.read

pub returns-in-Err-clause-fails : goal.returns-in-Err-clause-fails
returns-in-Err-clause-fails g c tells = other_fails c.in-Err.fault _ c.in-Err.ensures.fault

pub returns-in-Err-open-clause-fails : goal.returns-in-Err-open-clause-fails
returns-in-Err-open-clause-fails g c tells =
    let d = g.D.Disk in
    let P : Type 0 = DeskView g.row.D.Denot g.row.C.Denot in
    subst (λ (s : P). OpenFailsOn c.in-Err-open.fault (d.state s.disk)) c.self.view_is
    (head_fails c.in-Err-open.fault (d.state c.self.inside.journal.disk)
    (subst (λ (s : State). HeadGives {T = ℕ} (Err c.in-Err-open.fault) s.journal.seen) ((c.beginning.ensures.untouched.files tells).now ∙ ap d.state c.disk_mut.ensures.value)
    (c.in-Err-open.ensures.err tells)))

pub returns-clause-fails : goal.returns-clause-fails
returns-clause-fails g c tells =
    let d = g.D.Disk in
    let P : Type 0 = DeskView g.row.D.Denot g.row.C.Denot in
    let old = c.self.inside.journal.disk in
    let lent = c.disk_mut.ensures.value in
    let mid = c.beginning.new.disk in
    let first = c.put_office.new.place in
    let from = c.in-Ok.beginning.from in
    let ok = c.in-Ok-open.ensures.ok tells in
    on_fault c.replay.result (λ e fails. subst (λ (s : P). OpenFailsOn e (d.state s.disk)) c.self.view_is
    (replay_fails old first from
    (subst (λ (o : OfficeView). BeginsOn d old o from) (sym c.put_office.ensures) (subst (λ (x : g.row.D.Denot). BeginsOn d x c.in-Ok.beginning.office from) lent c.in-Ok.ensures.begins)) tells e (d.state mid).journal.seen
    (ap (λ (s : State). s.journal.seen) ((c.beginning.ensures.untouched.files tells).now ∙ ap d.state lent)) ok.0 fails))
    (subst (λ (k : ℕ). IfErr c.replay.result (λ e. ReplayFails e first k (d.state mid).journal.seen)) c.in-Ok-open.ensures.start
    (c.replay.ensures.fails tells (d.state mid).journal.seen (c.in-Ok-open.ensures.reads tells (λ is. absurd cc) Journal) ok.0))

pub returns-in-Err-clause-any_moment : goal.returns-in-Err-clause-any_moment
returns-in-Err-clause-any_moment g c tells =
    let d = g.D.Disk in
    let P : Type 0 = DeskView g.row.D.Denot g.row.C.Denot in
    let mid = c.beginning.new.disk in
    let still = subst (λ (x : g.row.D.Denot). Untouched d x mid) c.disk_mut.ensures.value (c.beginning.ensures.untouched.files (g.met.D.Disk.honest_tells tells)) in
    subst (λ (s : P). KeepsTo d s.disk mid (Narrower (d.state s.disk))) c.self.view_is (narrowed_still c.self.inside.journal.disk mid still)

pub returns-in-Err-open-clause-any_moment : goal.returns-in-Err-open-clause-any_moment
returns-in-Err-open-clause-any_moment g c tells =
    let d = g.D.Disk in
    let P : Type 0 = DeskView g.row.D.Denot g.row.C.Denot in
    let mid = c.beginning.new.disk in
    let still = subst (λ (x : g.row.D.Denot). Untouched d x mid) c.disk_mut.ensures.value (c.beginning.ensures.untouched.files (g.met.D.Disk.honest_tells tells)) in
    subst (λ (s : P). KeepsTo d s.disk c.open.new.self.disk (Narrower (d.state s.disk))) c.self.view_is
    (narrowed_on c.self.inside.journal.disk mid c.open.new.self.disk still (c.open.ensures.any_moment tells))

pub returns-clause-any_moment : goal.returns-clause-any_moment
returns-clause-any_moment g c tells =
    let d = g.D.Disk in
    let P : Type 0 = DeskView g.row.D.Denot g.row.C.Denot in
    let mid = c.beginning.new.disk in
    let still = subst (λ (x : g.row.D.Denot). Untouched d x mid) c.disk_mut.ensures.value (c.beginning.ensures.untouched.files (g.met.D.Disk.honest_tells tells)) in
    subst (λ (s : P). KeepsTo d s.disk c.replay.new.journal.disk (Narrower (d.state s.disk))) c.self.view_is
    (then_untouched (narrowed_on c.self.inside.journal.disk mid c.open.new.self.disk still (c.open.ensures.any_moment tells))
    (c.replay.ensures.untouched.files (g.met.D.Disk.honest_tells tells)))

pub replay-requires-clause-fresh : goal.replay-requires-clause-fresh
replay-requires-clause-fresh g c = subst (λ (o : OfficeView). o.records.accepted ≡ 0) (sym c.put_office.ensures) c.in-Ok.ensures.begins.fresh
