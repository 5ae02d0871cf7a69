use Rattle.std.proofs.Common.{◌≤◌, length, subst}
use Rattle.std.proofs.lemmas.Result.{on_ok_weaker}
use Rattle.disk_core.specs.Files.{File, file_in}
use Rattle.disk_core.proofs.Time.{started, goes_on}
use Rattle.slots.specs.Saving.{OnlyIn, IsInPart}
use Rattle.slots.proofs.OneFile.{only_start, only_wrote, only_after_sync}
use Rattle.slots.proofs.Parts.{part_start, part_wrote, part_synced, part_reread}
use Rattle.slots.proofs.Tallied.{wrote_one, synced_last}
use Rattle.slots.proofs.writing.put_synced.Goals as goal

pub returns-in_err-write_at-clause-any_moment : goal.returns-in_err-write_at-clause-any_moment
returns-in_err-write_at-clause-any_moment g c told bytes is =
    let d = g.D.Disk in
    let old = c.args.disk.now in
    let first = d.state old in
    let file = c.args.file in
    let P = IsInPart c.args.at (length c.args.bytes.now) bytes in
    let le : c.args.at ≤ length bytes = subst (λ (f : File). c.args.at ≤ length f.seen) is (c.requires told) in
    let start = started d old (OnlyIn file P first) (g.met.D.Disk.only_now old)
    (only_start P file first (part_start c.args.at (length c.args.bytes.now) bytes (file_in file first) is)) in
    goes_on start c.write_at.ensures.time
    (only_wrote P file c.args.at (length c.args.bytes.now) first first (d.state c.write_at.new.self) start.now (c.write_at.ensures.state told)
    (λ seen part. part_wrote c.args.at (length c.args.bytes.now) bytes seen (file_in file first) is le part))

pub returns-clause-any_moment : goal.returns-clause-any_moment
returns-clause-any_moment g c told bytes is =
    let d = g.D.Disk in
    let old = c.args.disk.now in
    let first = d.state old in
    let mid = d.state c.write_at.new.self in
    let file = c.args.file in
    let at = c.args.at in
    let n = length c.args.bytes.now in
    let P = IsInPart at n bytes in
    let le : at ≤ length bytes = subst (λ (f : File). at ≤ length f.seen) is (c.requires told) in
    let start = started d old (OnlyIn file P first) (g.met.D.Disk.only_now old)
    (only_start P file first (part_start at n bytes (file_in file first) is)) in
    let wrote = goes_on start c.write_at.ensures.time
    (only_wrote P file at n first first mid start.now (c.write_at.ensures.state told)
    (λ seen part. part_wrote at n bytes seen (file_in file first) is le part)) in
    let own = g.met.D.Disk.reads_image told c.write_at.new.self file in
    goes_on wrote c.sync.ensures.time
    (only_after_sync c.sync.result P file first mid (d.state c.sync.new.self) wrote.now
    (part_synced at n bytes (file_in file mid) wrote.now.here own)
    (λ seen image. part_reread at n bytes seen (file_in file mid) wrote.now.here)
    (c.sync.ensures.done told) (c.sync.ensures.state told))

pub returns-clause-synced : goal.returns-clause-synced
returns-clause-synced g c = on_ok_weaker c.sync.result (λ is. synced_last (wrote_one c.write_at.ensures.tally) is) c.sync.ensures.synced
