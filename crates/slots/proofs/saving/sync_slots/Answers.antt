use Rattle.std.proofs.Common.{◌∙◌}
use Rattle.std.proofs.lemmas.Result.{on_ok_weaker}
use Rattle.disk_core.specs.declared.disk.FileNo.TheVariants.{Slot0, Slot1}
use Rattle.disk_core.proofs.Time.{started, goes_on}
use Rattle.slots.specs.Saving.{NarrowerSlots}
use Rattle.slots.proofs.Saved.{narrower_start, narrower_after0, narrower_after1}
use Rattle.slots.proofs.Tallied.{sync_writes, both_synced}
use Rattle.slots.proofs.saving.sync_slots.Goals as goal

pub returns-clause-any_moment : goal.returns-clause-any_moment
returns-clause-any_moment g c told =
    let d = g.D.Disk in
    let old = c.args.disk.now in
    let first = d.state old in
    let mid = d.state c.sync.new.self in
    let start = started d old (NarrowerSlots first) (g.met.D.Disk.only_now old) (narrower_start first) in
    let one = goes_on start c.sync.ensures.time
    (narrower_after0 c.sync.result first first mid start.now (g.met.D.Disk.reads_image told old Slot0) (c.sync.ensures.done told) (c.sync.ensures.state told)) in
    goes_on one c.sync-2.ensures.time
    (narrower_after1 c.sync-2.result first mid (d.state c.sync-2.new.self) one.now (g.met.D.Disk.reads_image told c.sync.new.self Slot1)
    (c.sync-2.ensures.done told) (c.sync-2.ensures.state told))

pub returns-clause-reads : goal.returns-clause-reads
returns-clause-reads g c tells =
    on_ok_weaker c.sync-2.result (λ same file. same file ∙ c.in_ok-sync.ensures.reads tells file) (c.sync-2.ensures.reads tells)

pub returns-in_err-sync-clause-writes : goal.returns-in_err-sync-clause-writes
returns-in_err-sync-clause-writes g c =
    let d = g.D.Disk in
    sync_writes c.sync.result Slot0 (d.tally c.args.disk.now) (d.tally c.sync.new.self) c.sync.ensures.synced c.sync.ensures.unsynced

pub returns-clause-writes : goal.returns-clause-writes
returns-clause-writes g c =
    let d = g.D.Disk in
    sync_writes c.sync-2.result Slot1 (d.tally c.sync.new.self) (d.tally c.sync-2.new.self) c.sync-2.ensures.synced c.sync-2.ensures.unsynced
    ∙ sync_writes c.sync.result Slot0 (d.tally c.args.disk.now) (d.tally c.sync.new.self) c.sync.ensures.synced c.sync.ensures.unsynced

pub returns-clause-synced : goal.returns-clause-synced
returns-clause-synced g c = on_ok_weaker c.sync-2.result (λ is. both_synced c.in_ok-sync.ensures.synced is) c.sync-2.ensures.synced
