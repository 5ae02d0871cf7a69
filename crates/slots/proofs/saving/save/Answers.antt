use Rattle.std.proofs.Common.{◌≡◌, subst}
use Rattle.disk_core.specs.declared.disk.FileNo.TheVariants.{Slot0, Slot1}
use Rattle.disk_core.specs.Files.{State}
use Rattle.disk_core.specs.Tallies.{Tally}
use Rattle.disk_core.proofs.Time.{joined}
use Rattle.slots.specs.Synced.{LeavesSynced, KeepsSynced}
use Rattle.slots.specs.Saving.{NarrowerSlots, SyncedSlots, HasOldOrNew, OldOrNew, EachKeeps, IsWritten, kept}
use Rattle.slots.proofs.Saved.{not_err, narrower_old, narrower_still, narrower_keeps, write_old, write_keeps, written_saved, is_synced, old_bytes}
use Rattle.slots.proofs.Tallied.{slot_synced}
use Rattle.slots.proofs.saving.save.Goals as goal

pub returns-then-is_err-clause-any_moment : goal.returns-then-is_err-clause-any_moment
returns-then-is_err-clause-any_moment g c told =
    let d = g.D.Disk in
    let spells = g.B.Body.spells in
    let first = d.state c.args.disk.now in
    let mid = d.state c.sync_slots.new.disk in
    let new = kept c.args.position c.args.body.now in
    let looked = c.spare_slot.ensures.untouched.files (g.met.D.Disk.honest_tells told) in
    let still : d.state c.spare_slot.new.disk ≡ first = looked.now in
    let run = c.sync_slots.ensures.any_moment told in
    let one = joined (OldOrNew new first) looked run
    (λ s is. narrower_old new first s (narrower_still first s is))
    (λ s keeps. narrower_old new first s (subst (λ (x : State). NarrowerSlots x s) still keeps)) in
    one

pub returns-then-is_err-clause-keeps : goal.returns-then-is_err-clause-keeps
returns-then-is_err-clause-keeps g c told value place loaded each =
    let d = g.D.Disk in
    let spells = g.B.Body.spells in
    let first = d.state c.args.disk.now in
    let mid = d.state c.sync_slots.new.disk in
    let new = kept c.args.position c.args.body.now in
    let looked = c.spare_slot.ensures.untouched.files (g.met.D.Disk.honest_tells told) in
    let still : d.state c.spare_slot.new.disk ≡ first = looked.now in
    let run = c.sync_slots.ensures.any_moment told in
    let one = joined (EachKeeps spells value place) looked run
    (λ s is. narrower_keeps spells value place first s each (narrower_still first s is))
    (λ s keeps. narrower_keeps spells value place first s each (subst (λ (x : State). NarrowerSlots x s) still keeps)) in
    one

pub returns-then-is_err-2-clause-any_moment : goal.returns-then-is_err-2-clause-any_moment
returns-then-is_err-2-clause-any_moment g c told =
    let d = g.D.Disk in
    let spells = g.B.Body.spells in
    let first = d.state c.args.disk.now in
    let mid = d.state c.sync_slots.new.disk in
    let new = kept c.args.position c.args.body.now in
    let looked = c.spare_slot.ensures.untouched.files (g.met.D.Disk.honest_tells told) in
    let still : d.state c.spare_slot.new.disk ≡ first = looked.now in
    let run = c.sync_slots.ensures.any_moment told in
    let one = joined (OldOrNew new first) looked run
    (λ s is. narrower_old new first s (narrower_still first s is))
    (λ s keeps. narrower_old new first s (subst (λ (x : State). NarrowerSlots x s) still keeps)) in
    let file = c.in-Ok.file in
    let spares = c.in-Ok.ensures.spares (g.met.D.Disk.honest_tells told) in
    let synced : SyncedSlots first mid = subst (λ (x : State). SyncedSlots x mid) still
    (not_err c.sync_slots.result (SyncedSlots (d.state c.spare_slot.new.disk) mid) c.if-is_err.ensures.value (c.sync_slots.ensures.done told)) in
    let there = is_synced spells file first mid spares synced in
    joined (OldOrNew new first) one (c.write_slot.ensures.any_moment told (old_bytes file first) there) (λ s keeps. keeps)
    (λ s keeps. write_old new first mid s synced (g.met.D.Disk.reads_image told c.args.disk.now Slot0)
    (g.met.D.Disk.reads_image told c.args.disk.now Slot1) spells file spares keeps)

pub returns-then-is_err-2-clause-keeps : goal.returns-then-is_err-2-clause-keeps
returns-then-is_err-2-clause-keeps g c told value place loaded each =
    let d = g.D.Disk in
    let spells = g.B.Body.spells in
    let first = d.state c.args.disk.now in
    let mid = d.state c.sync_slots.new.disk in
    let new = kept c.args.position c.args.body.now in
    let looked = c.spare_slot.ensures.untouched.files (g.met.D.Disk.honest_tells told) in
    let still : d.state c.spare_slot.new.disk ≡ first = looked.now in
    let run = c.sync_slots.ensures.any_moment told in
    let one = joined (EachKeeps spells value place) looked run
    (λ s is. narrower_keeps spells value place first s each (narrower_still first s is))
    (λ s keeps. narrower_keeps spells value place first s each (subst (λ (x : State). NarrowerSlots x s) still keeps)) in
    let file = c.in-Ok.file in
    let spares = c.in-Ok.ensures.spares (g.met.D.Disk.honest_tells told) in
    let synced : SyncedSlots first mid = subst (λ (x : State). SyncedSlots x mid) still
    (not_err c.sync_slots.result (SyncedSlots (d.state c.spare_slot.new.disk) mid) c.if-is_err.ensures.value (c.sync_slots.ensures.done told)) in
    let there = is_synced spells file first mid spares synced in
    joined (EachKeeps spells value place) one (c.write_slot.ensures.any_moment told (old_bytes file first) there) (λ s keeps. keeps)
    (λ s keeps. write_keeps spells value place (HasOldOrNew (old_bytes file first) new) file first mid s spares loaded synced keeps)

pub returns-clause-any_moment : goal.returns-clause-any_moment
returns-clause-any_moment g c told =
    let d = g.D.Disk in
    let spells = g.B.Body.spells in
    let first = d.state c.args.disk.now in
    let mid = d.state c.sync_slots.new.disk in
    let new = kept c.args.position c.args.body.now in
    let looked = c.spare_slot.ensures.untouched.files (g.met.D.Disk.honest_tells told) in
    let still : d.state c.spare_slot.new.disk ≡ first = looked.now in
    let run = c.sync_slots.ensures.any_moment told in
    let one = joined (OldOrNew new first) looked run
    (λ s is. narrower_old new first s (narrower_still first s is))
    (λ s keeps. narrower_old new first s (subst (λ (x : State). NarrowerSlots x s) still keeps)) in
    let file = c.in-Ok.file in
    let spares = c.in-Ok.ensures.spares (g.met.D.Disk.honest_tells told) in
    let synced : SyncedSlots first mid = subst (λ (x : State). SyncedSlots x mid) still
    (not_err c.sync_slots.result (SyncedSlots (d.state c.spare_slot.new.disk) mid) c.if-is_err.ensures.value (c.sync_slots.ensures.done told)) in
    let there = is_synced spells file first mid spares synced in
    joined (OldOrNew new first) one (c.write_slot.ensures.any_moment told (old_bytes file first) there) (λ s keeps. keeps)
    (λ s keeps. write_old new first mid s synced (g.met.D.Disk.reads_image told c.args.disk.now Slot0)
    (g.met.D.Disk.reads_image told c.args.disk.now Slot1) spells file spares keeps)

pub returns-clause-keeps : goal.returns-clause-keeps
returns-clause-keeps g c told value place loaded each =
    let d = g.D.Disk in
    let spells = g.B.Body.spells in
    let first = d.state c.args.disk.now in
    let mid = d.state c.sync_slots.new.disk in
    let new = kept c.args.position c.args.body.now in
    let looked = c.spare_slot.ensures.untouched.files (g.met.D.Disk.honest_tells told) in
    let still : d.state c.spare_slot.new.disk ≡ first = looked.now in
    let run = c.sync_slots.ensures.any_moment told in
    let one = joined (EachKeeps spells value place) looked run
    (λ s is. narrower_keeps spells value place first s each (narrower_still first s is))
    (λ s keeps. narrower_keeps spells value place first s each (subst (λ (x : State). NarrowerSlots x s) still keeps)) in
    let file = c.in-Ok.file in
    let spares = c.in-Ok.ensures.spares (g.met.D.Disk.honest_tells told) in
    let synced : SyncedSlots first mid = subst (λ (x : State). SyncedSlots x mid) still
    (not_err c.sync_slots.result (SyncedSlots (d.state c.spare_slot.new.disk) mid) c.if-is_err.ensures.value (c.sync_slots.ensures.done told)) in
    let there = is_synced spells file first mid spares synced in
    joined (EachKeeps spells value place) one (c.write_slot.ensures.any_moment told (old_bytes file first) there) (λ s keeps. keeps)
    (λ s keeps. write_keeps spells value place (HasOldOrNew (old_bytes file first) new) file first mid s spares loaded synced keeps)

pub returns-clause-saved : goal.returns-clause-saved
returns-clause-saved g c told =
    let d = g.D.Disk in
    let spells = g.B.Body.spells in
    let first = d.state c.args.disk.now in
    let mid = d.state c.sync_slots.new.disk in
    let new = kept c.args.position c.args.body.now in
    let looked = c.spare_slot.ensures.untouched.files (g.met.D.Disk.honest_tells told) in
    let still : d.state c.spare_slot.new.disk ≡ first = looked.now in
    let run = c.sync_slots.ensures.any_moment told in
    let file = c.in-Ok.file in
    let spares = c.in-Ok.ensures.spares (g.met.D.Disk.honest_tells told) in
    let synced : SyncedSlots first mid = subst (λ (x : State). SyncedSlots x mid) still
    (not_err c.sync_slots.result (SyncedSlots (d.state c.spare_slot.new.disk) mid) c.if-is_err.ensures.value (c.sync_slots.ensures.done told)) in
    let there = is_synced spells file first mid spares synced in
    let s = d.state c.write_slot.new.disk in
    let written = not_err c.write_slot.result (IsWritten file new mid s) c.if-is_err-2.ensures.value
    (c.write_slot.ensures.done told (old_bytes file first) there) in
    written_saved spells new file first mid s spares written

pub returns-clause-durable : goal.returns-clause-durable
returns-clause-durable g c =
    let t = g.D.Disk.tally in
    let file = c.in-Ok.file in
    let both = not_err c.sync_slots.result (LeavesSynced 2 (t c.spare_slot.new.disk) (t c.sync_slots.new.disk)) c.if-is_err.ensures.value
    c.sync_slots.ensures.synced in
    let one = not_err c.write_slot.result (KeepsSynced file 2 (t c.sync_slots.new.disk) (t c.write_slot.new.disk)) c.if-is_err-2.ensures.value
    c.write_slot.ensures.synced in
    subst (λ (old : Tally). LeavesSynced 4 old (t c.write_slot.new.disk)) c.spare_slot.ensures.untouched.tally
    (slot_synced file 2 2 c.in-Ok.ensures.slot both one)
