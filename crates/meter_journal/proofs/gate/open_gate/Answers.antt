use Rattle.std.proofs.Common.{◌∷◌, []}
use Rattle.std.proofs.lemmas.Result.{on_ok_weaker}
use Rattle.disk_core.specs.declared.disk.FileNo.TheVariants.{Journal}
use Rattle.disk_core.specs.Files.{put}
use Rattle.disk_core.specs.Fronts.{IsButOne}
use Rattle.disk_core.proofs.Time.{started, goes_on}
use Rattle.disk_core.proofs.Crash.{but_one_start, but_one_wrote, but_one_after_sync, synced_bytes}
use Rattle.meter_journal.specs.History.{IsNoLonger}
use Rattle.meter_journal.proofs.Room.{wrote_within, synced_within}
use Rattle.meter_journal.proofs.Syncs.{none_yet, and_written, and_synced}
use Rattle.meter_journal.proofs.gate.open_gate.Goals as goal

pub returns-in_err-write_at-clause-any_moment : goal.returns-in_err-write_at-clause-any_moment
returns-in_err-write_at-clause-any_moment g c told bytes lt is =
    let d = g.D.Disk in
    let old = c.args.disk.now in
    let first = d.state old in
    let start = started d old (IsButOne c.args.gate bytes first) (g.met.D.Disk.only_now old) (but_one_start c.args.gate bytes first lt is) in
    goes_on start c.write_at.ensures.time
    (but_one_wrote c.args.gate bytes first (d.state c.write_at.new.self) lt is (c.write_at.ensures.state told))

pub returns-clause-any_moment : goal.returns-clause-any_moment
returns-clause-any_moment g c told bytes lt is =
    let d = g.D.Disk in
    let old = c.args.disk.now in
    let first = d.state old in
    let mid = d.state c.write_at.new.self in
    let start = started d old (IsButOne c.args.gate bytes first) (g.met.D.Disk.only_now old) (but_one_start c.args.gate bytes first lt is) in
    let wrote = goes_on start c.write_at.ensures.time (but_one_wrote c.args.gate bytes first mid lt is (c.write_at.ensures.state told)) in
    goes_on wrote c.sync.ensures.time
    (but_one_after_sync c.sync.result c.args.gate bytes first mid (d.state c.sync.new.self) wrote.now
    (g.met.D.Disk.reads_image told c.write_at.new.self Journal) (c.sync.ensures.done told) (c.sync.ensures.state told))

pub returns-clause-done : goal.returns-clause-done
returns-clause-done g c told =
    let state = g.D.Disk.state in
    synced_bytes c.sync.result (state c.write_at.new.self) (state c.sync.new.self)
    (put c.args.gate (0xA5 ∷ []) (state c.args.disk.now).journal.seen) (c.sync.ensures.done told) (c.in_ok-write_at.ensures.done told)

pub returns-in_err-write_at-clause-room : goal.returns-in_err-write_at-clause-room
returns-in_err-write_at-clause-room g c told n le room =
    let d = g.D.Disk in
    wrote_within (started d c.args.disk.now (IsNoLonger n) (g.met.D.Disk.only_now c.args.disk.now) room) c.write_at.ensures.time
    (g.met.D.Disk.reads_image told c.args.disk.now Journal) c.args.gate 1 le (c.write_at.ensures.state told)

pub returns-clause-room : goal.returns-clause-room
returns-clause-room g c told n le room =
    let d = g.D.Disk in
    let wrote = wrote_within (started d c.args.disk.now (IsNoLonger n) (g.met.D.Disk.only_now c.args.disk.now) room) c.write_at.ensures.time
    (g.met.D.Disk.reads_image told c.args.disk.now Journal) c.args.gate 1 le (c.write_at.ensures.state told) in
    synced_within wrote c.sync.ensures.time (g.met.D.Disk.reads_image told c.write_at.new.self Journal) c.sync.result
    (c.sync.ensures.done told) (c.sync.ensures.state told)

pub returns-clause-synced : goal.returns-clause-synced
returns-clause-synced g c =
    let one = and_written (none_yet (g.D.Disk.tally c.args.disk.now)) c.write_at.ensures.tally in
    on_ok_weaker c.sync.result (and_synced one) c.sync.ensures.synced
