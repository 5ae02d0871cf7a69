use Rattle.std.proofs.Common.{◌≡◌, ◌++◌, ℕ, List, length, ap, ◌∙◌, arith, rules, length-append}
use Rattle.std.proofs.lemmas.Result.{on_ok_weaker}
use Rattle.std.specs.Int.{w64, to_be_bytes}
use Rattle.disk_core.specs.Files.{put, seen_in}
use Rattle.disk_core.specs.Fronts.{KeepsFront}
use Rattle.disk_core.specs.SeenImages.{length-put}
use Rattle.disk_core.proofs.Time.{started}
use Rattle.disk_core.proofs.Crash.{put-put}
use Rattle.slots.specs.Slots.{text_of}
use Rattle.slots.specs.Saving.{OnlyIn}
use Rattle.slots.proofs.OneFile.{only_start, synced_from, any_file, only_any}
use Rattle.slots.proofs.Fronts.{front_on, front_synced_on}
use Rattle.slots.proofs.Tallied.{wrote_one, wrote_more, synced_last}
use Rattle.slots.proofs.writing.write_text.Goals as goal

pub returns-in_err-write_at-clause-any_moment : goal.returns-in_err-write_at-clause-any_moment
returns-in_err-write_at-clause-any_moment g c told front keeps =
    let d = g.D.Disk in
    let old = c.args.disk.now in
    let first = d.state old in
    let file = c.args.file in
    let P = KeepsFront 1 front in
    let start = started d old (OnlyIn file P first) (g.met.D.Disk.only_now old) (only_start P file first keeps) in
    let one = front_on start c.write_at.ensures.time 1 (length c.to_be_bytes.result) (omega arith) (c.write_at.ensures.state told) in
    one

pub returns-in_err-write_at-2-clause-any_moment : goal.returns-in_err-write_at-2-clause-any_moment
returns-in_err-write_at-2-clause-any_moment g c told front keeps =
    let d = g.D.Disk in
    let old = c.args.disk.now in
    let first = d.state old in
    let file = c.args.file in
    let P = KeepsFront 1 front in
    let start = started d old (OnlyIn file P first) (g.met.D.Disk.only_now old) (only_start P file first keeps) in
    let one = front_on start c.write_at.ensures.time 1 (length c.to_be_bytes.result) (omega arith) (c.write_at.ensures.state told) in
    let two = front_on one c.write_at-2.ensures.time 9 (length c.to_be_bytes-2.result) (omega arith) (c.write_at-2.ensures.state told) in
    two

pub write_at-requires-3 : goal.write_at-requires-3
write_at-requires-3 g c told =
    let state = g.D.Disk.state in
    let file = c.args.file in
    let seen = seen_in file (state c.args.disk.now) in
    let p = c.to_be_bytes.result in
    let n = c.to_be_bytes-2.result in
    let is_p : p ≡ to_be_bytes w64 c.args.position = search rules in
    let is_n : n ≡ to_be_bytes w64 (length c.args.body.now) = search rules in
    let one : seen_in file (state c.write_at.new.self) ≡ put 1 p seen = c.in_ok-write_at.ensures.done told in
    let two : seen_in file (state c.write_at-2.new.self) ≡ put 9 n (put 1 p seen) =
    c.in_ok-write_at-2.ensures.done told ∙ ap (put 9 n) one in
    let long = length-put 1 p seen (c.requires told) in
    omega (
      arith,
      ap length is_p,
      ap length is_n,
      ap length two,
      long,
      length-put 9 n (put 1 p seen) (omega (arith, long, ap length is_p)),
    )

pub returns-in_err-write_at-3-clause-any_moment : goal.returns-in_err-write_at-3-clause-any_moment
returns-in_err-write_at-3-clause-any_moment g c told front keeps =
    let d = g.D.Disk in
    let old = c.args.disk.now in
    let first = d.state old in
    let file = c.args.file in
    let P = KeepsFront 1 front in
    let start = started d old (OnlyIn file P first) (g.met.D.Disk.only_now old) (only_start P file first keeps) in
    let one = front_on start c.write_at.ensures.time 1 (length c.to_be_bytes.result) (omega arith) (c.write_at.ensures.state told) in
    let two = front_on one c.write_at-2.ensures.time 9 (length c.to_be_bytes-2.result) (omega arith) (c.write_at-2.ensures.state told) in
    let three = front_on two c.write_at-3.ensures.time 17 (length c.args.body.now) (omega arith) (c.write_at-3.ensures.state told) in
    three

pub returns-clause-any_moment : goal.returns-clause-any_moment
returns-clause-any_moment g c told front keeps =
    let d = g.D.Disk in
    let old = c.args.disk.now in
    let first = d.state old in
    let file = c.args.file in
    let P = KeepsFront 1 front in
    let start = started d old (OnlyIn file P first) (g.met.D.Disk.only_now old) (only_start P file first keeps) in
    let one = front_on start c.write_at.ensures.time 1 (length c.to_be_bytes.result) (omega arith) (c.write_at.ensures.state told) in
    let two = front_on one c.write_at-2.ensures.time 9 (length c.to_be_bytes-2.result) (omega arith) (c.write_at-2.ensures.state told) in
    let three = front_on two c.write_at-3.ensures.time 17 (length c.args.body.now) (omega arith) (c.write_at-3.ensures.state told) in
    front_synced_on three c.sync.ensures.time (g.met.D.Disk.reads_image told c.write_at-3.new.self file) c.sync.result (c.sync.ensures.done told) (c.sync.ensures.state told)

pub returns-clause-done : goal.returns-clause-done
unfolding text_of
returns-clause-done g c told =
    let state = g.D.Disk.state in
    let file = c.args.file in
    let first = state c.args.disk.now in
    let seen = seen_in file first in
    let p = c.to_be_bytes.result in
    let n = c.to_be_bytes-2.result in
    let body = c.args.body.now in
    let is_p : p ≡ to_be_bytes w64 c.args.position = search rules in
    let is_n : n ≡ to_be_bytes w64 (length body) = search rules in
    let two = c.in_ok-write_at-2.ensures.done told ∙ ap (put 9 n) (c.in_ok-write_at.ensures.done told)
    ∙ put-put 1 9 p n seen (c.requires told) (omega (arith, ap length is_p)) in
    let three : seen_in file (state c.write_at-3.new.self) ≡ put 1 (text_of c.args.position body) seen =
    c.in_ok-write_at-3.ensures.done told ∙ ap (put 17 body) two
    ∙ put-put 1 17 (p ++ n) body seen (c.requires told) (omega (arith, ap length is_p, ap length is_n, length-append p n))
    ∙ ap (λ (l : List ℕ). put 1 ((l ++ n) ++ body) seen) is_p
    ∙ ap (λ (l : List ℕ). put 1 ((to_be_bytes w64 c.args.position ++ l) ++ body) seen) is_n in
    let kept = only_any (only_any (only_any (any_file file first) (c.write_at.ensures.state told)) (c.write_at-2.ensures.state told)) (c.write_at-3.ensures.state told) in
    synced_from c.sync.result (λ f. Unit {0}) file first (state c.write_at-3.new.self) (state c.sync.new.self)
    (put 1 (text_of c.args.position body) seen) kept three (c.sync.ensures.done told)

pub returns-clause-synced : goal.returns-clause-synced
returns-clause-synced g c =
    let wrote = wrote_more (wrote_more (wrote_one c.write_at.ensures.tally) c.write_at-2.ensures.tally) c.write_at-3.ensures.tally in
    on_ok_weaker c.sync.result (λ is. synced_last wrote is) c.sync.ensures.synced
