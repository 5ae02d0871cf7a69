use Rattle.std.proofs.Common.{◌≡◌, ◌+◌, ◌++◌, ◌∷◌, List, ℕ, length, replicate, arith, rules, length-append, ◌∙◌, ap}
use Rattle.std.proofs.lemmas.Result.{on_ok_weaker}
use Rattle.std.specs.Int.{w32, to_be_bytes}
use Rattle.disk_core.specs.Files.{put}
use Rattle.disk_core.specs.Fronts.{KeepsJournal}
use Rattle.disk_core.proofs.Time.{started}
use Rattle.disk_core.proofs.Crash.{wrote_on, synced_on, synced_bytes, put-put}
use Rattle.disk_core.specs.declared.disk.FileNo.TheVariants.{Journal}
use Rattle.meter_journal.specs.History.{IsNoLonger}
use Rattle.meter_journal.proofs.Room.{wrote_within, synced_within, ends_within, closes_within}
use Rattle.meter_journal.proofs.Syncs.{none_yet, and_written, and_synced}
use Rattle.meter_journal.proofs.framing.write_frame.Goals as goal

pub returns-in_err-write_at-clause-any_moment : goal.returns-in_err-write_at-clause-any_moment
returns-in_err-write_at-clause-any_moment g c told front keeps =
    let d = g.D.Disk in
    let old = c.args.disk.now in
    let start = started d old (KeepsJournal (c.args.gate + 1) front (d.state old)) (g.met.D.Disk.only_now old) keeps in
    wrote_on start c.write_at.ensures.time (c.args.gate + 1) (length c.to_be_bytes.result) (omega arith) (c.write_at.ensures.state told)

pub returns-in_err-write_at-2-clause-any_moment : goal.returns-in_err-write_at-2-clause-any_moment
returns-in_err-write_at-2-clause-any_moment g c told front keeps =
    let d = g.D.Disk in
    let old = c.args.disk.now in
    let start = started d old (KeepsJournal (c.args.gate + 1) front (d.state old)) (g.met.D.Disk.only_now old) keeps in
    let one = wrote_on start c.write_at.ensures.time (c.args.gate + 1) (length c.to_be_bytes.result) (omega arith) (c.write_at.ensures.state told) in
    wrote_on one c.write_at-2.ensures.time (c.args.gate + 5) (length c.args.entry.now) (omega arith) (c.write_at-2.ensures.state told)

pub returns-in_err-write_at-3-clause-any_moment : goal.returns-in_err-write_at-3-clause-any_moment
returns-in_err-write_at-3-clause-any_moment g c told front keeps =
    let d = g.D.Disk in
    let old = c.args.disk.now in
    let start = started d old (KeepsJournal (c.args.gate + 1) front (d.state old)) (g.met.D.Disk.only_now old) keeps in
    let one = wrote_on start c.write_at.ensures.time (c.args.gate + 1) (length c.to_be_bytes.result) (omega arith) (c.write_at.ensures.state told) in
    let two = wrote_on one c.write_at-2.ensures.time (c.args.gate + 5) (length c.args.entry.now) (omega arith) (c.write_at-2.ensures.state told) in
    wrote_on two c.write_at-3.ensures.time (c.args.gate + 5 + length c.args.entry.now) (length c.ending-closing.result.now) (omega arith) (c.write_at-3.ensures.state told)

pub returns-clause-any_moment : goal.returns-clause-any_moment
returns-clause-any_moment g c told front keeps =
    let d = g.D.Disk in
    let old = c.args.disk.now in
    let start = started d old (KeepsJournal (c.args.gate + 1) front (d.state old)) (g.met.D.Disk.only_now old) keeps in
    let one = wrote_on start c.write_at.ensures.time (c.args.gate + 1) (length c.to_be_bytes.result) (omega arith) (c.write_at.ensures.state told) in
    let two = wrote_on one c.write_at-2.ensures.time (c.args.gate + 5) (length c.args.entry.now) (omega arith) (c.write_at-2.ensures.state told) in
    let three = wrote_on two c.write_at-3.ensures.time (c.args.gate + 5 + length c.args.entry.now) (length c.ending-closing.result.now) (omega arith) (c.write_at-3.ensures.state told) in
    synced_on three c.sync.ensures.time c.sync.result (c.sync.ensures.done told) (c.sync.ensures.state told)

pub returns-clause-done : goal.returns-clause-done
returns-clause-done g c told =
    let state = g.D.Disk.state in
    let seen = (state c.args.disk.now).journal.seen in
    let entry = c.args.entry.now in
    let at = c.args.gate + 1 in
    let size = c.to_be_bytes.result in
    let is_size : size ≡ to_be_bytes w32 (length entry) = search rules in
    let is_four : length size ≡ 4 = ap length is_size in
    let inside = c.requires.inside told in
    let two =
    c.in_ok-write_at-2.ensures.done told
    ∙ ap (λ (l : List ℕ). put (c.args.gate + 5) entry l) (c.in_ok-write_at.ensures.done told)
    ∙ put-put at (c.args.gate + 5) size entry seen inside (omega (arith, is_four)) in
    let closing = c.ending-closing.result.now in
    let three =
    c.in_ok-write_at-3.ensures.done told
    ∙ ap (λ (l : List ℕ). put (c.args.gate + 5 + length entry) closing l) two
    ∙ put-put at (c.args.gate + 5 + length entry) (size ++ entry) closing seen inside
    (omega (arith, is_four, length-append size entry))
    ∙ ap (λ (l : List ℕ). put at ((l ++ entry) ++ closing) seen) is_size
    ∙ ap (λ (l : List ℕ). put at ((to_be_bytes w32 (length entry) ++ entry) ++ l) seen) c.ending-closing.ensures.zeros.1 in
    let n = c.ending-closing.ensures.zeros.0 in
    on_ok_weaker c.sync.result (λ is. (n, is))
    (synced_bytes c.sync.result (state c.write_at-3.new.self) (state c.sync.new.self)
    (put at ((to_be_bytes w32 (length entry) ++ entry) ++ 0 ∷ replicate n 0) seen) (c.sync.ensures.done told) three)

pub returns-in_err-write_at-clause-room : goal.returns-in_err-write_at-clause-room
returns-in_err-write_at-clause-room g c told n fits le room =
    let d = g.D.Disk in
    let own : (x : g.row.D.Denot) → _ = λ x. g.met.D.Disk.reads_image told x Journal in
    let size = length c.args.entry.now in
    let end = ends_within c.args.gate size c.args.limit n fits le in
    let is_size : c.to_be_bytes.result ≡ to_be_bytes w32 size = search rules in
    let four : length c.to_be_bytes.result ≡ 4 = ap length is_size in
    let start = started d c.args.disk.now (IsNoLonger n) (g.met.D.Disk.only_now c.args.disk.now) room in
    wrote_within start c.write_at.ensures.time (own c.args.disk.now) (c.args.gate + 1) (length c.to_be_bytes.result) (omega (arith, four, end)) (c.write_at.ensures.state told)

pub returns-in_err-write_at-2-clause-room : goal.returns-in_err-write_at-2-clause-room
returns-in_err-write_at-2-clause-room g c told n fits le room =
    let d = g.D.Disk in
    let own : (x : g.row.D.Denot) → _ = λ x. g.met.D.Disk.reads_image told x Journal in
    let size = length c.args.entry.now in
    let end = ends_within c.args.gate size c.args.limit n fits le in
    let is_size : c.to_be_bytes.result ≡ to_be_bytes w32 size = search rules in
    let four : length c.to_be_bytes.result ≡ 4 = ap length is_size in
    let start = started d c.args.disk.now (IsNoLonger n) (g.met.D.Disk.only_now c.args.disk.now) room in
    let one = wrote_within start c.write_at.ensures.time (own c.args.disk.now) (c.args.gate + 1) (length c.to_be_bytes.result) (omega (arith, four, end)) (c.write_at.ensures.state told) in
    wrote_within one c.write_at-2.ensures.time (own c.write_at.new.self) (c.args.gate + 5) size (omega (arith, end)) (c.write_at-2.ensures.state told)

pub returns-in_err-write_at-3-clause-room : goal.returns-in_err-write_at-3-clause-room
returns-in_err-write_at-3-clause-room g c told n fits le room =
    let d = g.D.Disk in
    let own : (x : g.row.D.Denot) → _ = λ x. g.met.D.Disk.reads_image told x Journal in
    let size = length c.args.entry.now in
    let end = ends_within c.args.gate size c.args.limit n fits le in
    let is_size : c.to_be_bytes.result ≡ to_be_bytes w32 size = search rules in
    let four : length c.to_be_bytes.result ≡ 4 = ap length is_size in
    let start = started d c.args.disk.now (IsNoLonger n) (g.met.D.Disk.only_now c.args.disk.now) room in
    let one = wrote_within start c.write_at.ensures.time (own c.args.disk.now) (c.args.gate + 1) (length c.to_be_bytes.result) (omega (arith, four, end)) (c.write_at.ensures.state told) in
    let two = wrote_within one c.write_at-2.ensures.time (own c.write_at.new.self) (c.args.gate + 5) size (omega (arith, end)) (c.write_at-2.ensures.state told) in
    wrote_within two c.write_at-3.ensures.time (own c.write_at-2.new.self) (c.args.gate + 5 + size) (length c.ending-closing.result.now)
    (closes_within c.args.gate size c.args.limit n (length c.ending-closing.result.now) fits le c.ending-closing.ensures.most c.ending-closing.ensures.limit) (c.write_at-3.ensures.state told)

pub returns-clause-room : goal.returns-clause-room
returns-clause-room g c told n fits le room =
    let d = g.D.Disk in
    let own : (x : g.row.D.Denot) → _ = λ x. g.met.D.Disk.reads_image told x Journal in
    let size = length c.args.entry.now in
    let end = ends_within c.args.gate size c.args.limit n fits le in
    let is_size : c.to_be_bytes.result ≡ to_be_bytes w32 size = search rules in
    let four : length c.to_be_bytes.result ≡ 4 = ap length is_size in
    let start = started d c.args.disk.now (IsNoLonger n) (g.met.D.Disk.only_now c.args.disk.now) room in
    let one = wrote_within start c.write_at.ensures.time (own c.args.disk.now) (c.args.gate + 1) (length c.to_be_bytes.result) (omega (arith, four, end)) (c.write_at.ensures.state told) in
    let two = wrote_within one c.write_at-2.ensures.time (own c.write_at.new.self) (c.args.gate + 5) size (omega (arith, end)) (c.write_at-2.ensures.state told) in
    let three = wrote_within two c.write_at-3.ensures.time (own c.write_at-2.new.self) (c.args.gate + 5 + size) (length c.ending-closing.result.now)
    (closes_within c.args.gate size c.args.limit n (length c.ending-closing.result.now) fits le c.ending-closing.ensures.most c.ending-closing.ensures.limit) (c.write_at-3.ensures.state told) in
    synced_within three c.sync.ensures.time (own c.write_at-3.new.self) c.sync.result (c.sync.ensures.done told) (c.sync.ensures.state told)

pub returns-clause-synced : goal.returns-clause-synced
returns-clause-synced g c =
    let one = and_written (none_yet (g.D.Disk.tally c.args.disk.now)) c.write_at.ensures.tally in
    let two = and_written one c.write_at-2.ensures.tally in
    let three = and_written two c.write_at-3.ensures.tally in
    on_ok_weaker c.sync.result (and_synced three) c.sync.ensures.synced
