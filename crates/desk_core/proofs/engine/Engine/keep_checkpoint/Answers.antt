use Rattle.std.proofs.Common.{◌≡◌, ℕ, true, false, sym, subst, rules}
use Rattle.std.specs.Prelude.{OnOk}
use Rattle.disk_core.specs.Moments.{KeepsTo, Untouched}
use Rattle.disk_core.proofs.Laws.{laws_of}
use Rattle.slots.specs.Saving.{OldOrNew, IsSaved, kept}
use Rattle.slots.specs.Synced.{LeavesSynced}
use Rattle.checkpoint.specs.Bodies.{body_format}
use Rattle.checkpoint.proofs.BodyLaws.{one_value}
use Rattle.desk_core.specs.Closing.{IsToSave, Closes}
use Rattle.desk_core.specs.Desk.{DeskView, IsReady}
use Rattle.desk_core.proofs.Carrying.{takes_kept}
use Rattle.desk_core.proofs.Closing.{closes_by, takes_snapshot, form_of}
use Rattle.desk_core.proofs.engine.Engine.keep_checkpoint.Goals as goal

pub save-saved-requires : goal.save-saved-requires
save-saved-requires g c =
    let d = g.D.Disk in
    let S : Type 0 = DeskView g.row.D.Denot g.row.C.Denot in
    let inside = c.self.inside in
    let desk : S = record { disk = inside.journal.disk; clock = inside.clock; office = inside.office; gate = inside.journal.gate; opened_at = inside.opened_at; limit = inside.journal.limit; stale = inside.stale } in
    let yes : c.is_to_save.result ≡ true = search rules in
    let is = c.is_to_save.ensures.yes yes in
    let ready = subst (λ (x : S). IsReady d x) (sym c.self.view_is) (c.requires.ready is.fresh) in
    record { kept = takes_kept c.in-Ok.snapshot.kept (takes_snapshot d desk ready c.in-Ok.snapshot c.in-Ok.ensures.shows) }

pub returns-clause-closes : goal.returns-clause-closes
returns-clause-closes g c =
    let d = g.D.Disk in
    let S : Type 0 = DeskView g.row.D.Denot g.row.C.Denot in
    let inside = c.self.inside in
    let desk : S = record { disk = inside.journal.disk; clock = inside.clock; office = inside.office; gate = inside.journal.gate; opened_at = inside.opened_at; limit = inside.journal.limit; stale = inside.stale } in
    let yes : c.is_to_save.result ≡ true = search rules in
    let is = subst (λ (x : S). IsToSave x) (sym c.self.view_is) (c.is_to_save.ensures.yes yes) in
    let ready = subst (λ (x : S). IsReady d x) (sym c.self.view_is) (c.requires.ready (c.is_to_save.ensures.yes yes).fresh) in
    let snapshot = c.in-Ok.snapshot in
    let shows = c.in-Ok.ensures.shows in
    let form = form_of snapshot (takes_snapshot d desk ready snapshot shows) c.in-Ok.ensures.sums c.in-Ok.ensures.told in
    let body = body_format.written snapshot in
    let new = c.save-saved.new.disk in
    subst (λ (x : S). Closes d x new c.save-saved.result) c.self.view_is
    (closes_by (laws_of g.met.D.Disk) desk one_value new snapshot body form c.each_has_six_numbers.ensures shows is.fresh is.grown
    (λ tells.
    subst (λ (k : ℕ). KeepsTo d desk.disk new (OldOrNew (kept k body) (d.state desk.disk))) c.end-position.ensures
    (subst (λ (x : g.row.D.Denot). KeepsTo d x new (OldOrNew (kept c.end-position.result body) (d.state x))) c.disk_mut.ensures.value
    (c.save-saved.ensures.any_moment tells)))
    c.save-saved.result c.save-saved.ensures.spelled
    (λ tells out. subst (λ (x : g.row.D.Denot). Untouched d x new) c.disk_mut.ensures.value (c.save-saved.ensures.unchanged tells out))
    (λ tells. subst (λ (k : ℕ). OnOk c.save-saved.result (IsSaved (kept k body) (d.state new))) c.end-position.ensures (c.save-saved.ensures.saved tells))
    (subst (λ (x : g.row.D.Denot). OnOk c.save-saved.result (LeavesSynced 4 (d.tally x) (d.tally new))) c.disk_mut.ensures.value c.save-saved.ensures.durable))
