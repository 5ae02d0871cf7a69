use Rattle.std.proofs.Common.{length, arith, ◌≡◌, ◌+◌, ◌∷◌, [], ◌∙◌, ap, subst, replicate, List, ℕ}
use Rattle.std.specs.Prelude.{OnOk}
use Rattle.std.proofs.lemmas.Result.{on_ok_weaker}
use Rattle.disk_core.specs.Files.{File, put, synced_file}
use Rattle.disk_core.proofs.Time.{joined, weakened}
use Rattle.meter_journal.specs.History.{IsNoLonger, BeforeOrAfter}
use Rattle.meter_journal.proofs.History.{with_frame, longer, keeps_start, seen_is, before, after, done}
use Rattle.meter_journal.proofs.Room.{ends_within}
use Rattle.meter_journal.proofs.Syncs.{twice}
use Rattle.meter_journal.proofs.journal.commit.Goals as goal

pub returns-in_err-write_frame-clause-any_moment : goal.returns-in_err-write_frame-clause-any_moment
returns-in_err-write_frame-clause-any_moment g c told head entries e fits is rest =
    let run = c.write_frame.ensures.any_moment told _ (keeps_start rest) in
    weakened (BeforeOrAfter head entries e (g.D.Disk.state c.args.disk.now)) run (before rest e)

pub returns-clause-any_moment : goal.returns-clause-any_moment
returns-clause-any_moment g c told head entries e fits is rest =
    let d = g.D.Disk in
    let text = c.args.entry.now in
    let mid = d.state c.write_frame.new.disk in
    let one = c.write_frame.ensures.any_moment told _ (keeps_start rest) in
    let fill = replicate (c.in_ok-write_frame.ensures.done told).0 0 in
    let on_disk = (c.in_ok-write_frame.ensures.done told).1 ∙ ap (λ (l : List ℕ). synced_file (put (c.args.gate + 1) _ l)) (seen_is rest) in
    let two = c.open_gate.ensures.any_moment told (with_frame rest text fill) (longer rest text fill) on_disk in
    joined (BeforeOrAfter head entries e (d.state c.args.disk.now)) one two
    (before rest e)
    (λ s but. after rest text fill e fits is c.requires.fits mid s one.now.slot0 one.now.slot1 but)

pub returns-clause-acknowledged : goal.returns-clause-acknowledged
returns-clause-acknowledged g c told head entries e fits is rest =
    let new = g.D.Disk.state c.open_gate.new.disk in
    let fill = replicate (c.in_ok-write_frame.ensures.done told).0 0 in
    let on_disk = (c.in_ok-write_frame.ensures.done told).1 ∙ ap (λ (l : List ℕ). synced_file (put (c.args.gate + 1) _ l)) (seen_is rest) in
    done rest c.args.entry.now fill e fits is c.requires.fits c.open_gate.result new
    (subst (λ (l : List ℕ). OnOk c.open_gate.result (new.journal ≡ synced_file (put c.args.gate (0xA5 ∷ []) l)))
    (ap (λ (f : File). f.seen) on_disk) (c.open_gate.ensures.done told))

pub returns-clause-room : goal.returns-clause-room
returns-clause-room g c told n fits le room =
    let one = c.write_frame.ensures.room told n fits le room in
    let end = ends_within c.args.gate (length c.args.entry.now) c.args.limit n fits le in
    joined (IsNoLonger n) one (c.open_gate.ensures.room told n (omega (arith, end)) one.now) (λ s p. p) (λ s p. p)

pub returns-clause-durable : goal.returns-clause-durable
returns-clause-durable g c = on_ok_weaker c.open_gate.result (twice c.in_ok-write_frame.ensures.synced) c.open_gate.ensures.synced
