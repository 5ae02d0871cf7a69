use Rattle.std.proofs.Common.{◌≡◌, ◌++◌, ◌∷◌, [], length, drop, ap, ◌∙◌, arith}
use Rattle.std.proofs.lemmas.Result.{on_ok_weaker}
use Rattle.disk_core.specs.Files.{File, State, put, file_in, seen_in, with_file, synced_file}
use Rattle.disk_core.specs.Fronts.{KeepsFront}
use Rattle.disk_core.proofs.Time.{joined}
use Rattle.slots.specs.Slots.{text_of}
use Rattle.slots.specs.Saving.{kept, OnlyIn, HasOldOrNew, IsInPart}
use Rattle.slots.proofs.OneFile.{in-with, with-with, only_weaker, only_from}
use Rattle.slots.proofs.Parts.{behind_shut, while_opened, front_of_shut, with_text, opened_slot}
use Rattle.slots.proofs.Tallied.{keeps_then}
use Rattle.slots.proofs.writing.write_slot.Goals as goal

pub returns-in_err-shut-clause-any_moment : goal.returns-in_err-shut-clause-any_moment
returns-in_err-shut-clause-any_moment g c told bytes is = c.shut.ensures.any_moment told bytes (kept c.args.position c.args.body.now) is

pub write_text-requires : goal.write_text-requires
write_text-requires g c told =
    let shut = c.in_ok-shut.ensures.shut told in
    omega (arith, ap length shut.parts)

pub returns-in_err-write_text-clause-any_moment : goal.returns-in_err-write_text-clause-any_moment
returns-in_err-write_text-clause-any_moment g c told bytes is =
    let d = g.D.Disk in
    let first = d.state c.args.disk.now in
    let file = c.args.file in
    let new = kept c.args.position c.args.body.now in
    let Q = HasOldOrNew bytes new in
    let shut = c.in_ok-shut.ensures.done told bytes is in
    let mid = d.state c.shut.new.disk in
    let gate = shut.1.gate in
    let synced : file_in file mid ≡ synced_file shut.0 = ap (file_in file) shut.2 ∙ in-with file (synced_file shut.0) first in
    joined (OnlyIn file Q first) (c.shut.ensures.any_moment told bytes new is)
    (c.write_text.ensures.any_moment told (gate ∷ []) (front_of_shut shut.0 (file_in file mid) shut.1 synced))
    (λ s keeps. keeps)
    (λ s keeps. only_from Q file (synced_file shut.0) first mid s shut.2
    (only_weaker (KeepsFront 1 (gate ∷ [])) Q file mid s (λ f front. behind_shut bytes new f gate shut.1.closed front) keeps))

pub returns-clause-any_moment : goal.returns-clause-any_moment
returns-clause-any_moment g c told bytes is =
    let d = g.D.Disk in
    let first = d.state c.args.disk.now in
    let file = c.args.file in
    let new = kept c.args.position c.args.body.now in
    let text = text_of new.position new.body in
    let Q = HasOldOrNew bytes new in
    let shut = c.in_ok-shut.ensures.done told bytes is in
    let mid = d.state c.shut.new.disk in
    let gate = shut.1.gate in
    let synced : file_in file mid ≡ synced_file shut.0 = ap (file_in file) shut.2 ∙ in-with file (synced_file shut.0) first in
    let run = joined (OnlyIn file Q first) (c.shut.ensures.any_moment told bytes new is)
    (c.write_text.ensures.any_moment told (gate ∷ []) (front_of_shut shut.0 (file_in file mid) shut.1 synced))
    (λ s keeps. keeps)
    (λ s keeps. only_from Q file (synced_file shut.0) first mid s shut.2
    (only_weaker (KeepsFront 1 (gate ∷ [])) Q file mid s (λ f front. behind_shut bytes new f gate shut.1.closed front) keeps)) in
    let wrote = c.in_ok-write_text.ensures.done told in
    let next = d.state c.write_text.new.disk in
    let seen : seen_in file mid ≡ gate ∷ shut.1.rest = ap (λ (f : File). f.seen) synced ∙ shut.1.parts in
    let tail = drop (length text) shut.1.rest in
    let file_is : put 1 text (seen_in file mid) ≡ gate ∷ (text ++ tail) = ap (put 1 text) seen ∙ with_text gate shut.1.rest text in
    let from_first : next ≡ with_file file (synced_file (put 1 text (seen_in file mid))) first =
    wrote ∙ ap (with_file file (synced_file (put 1 text (seen_in file mid)))) shut.2
    ∙ with-with file (synced_file (put 1 text (seen_in file mid))) (synced_file shut.0) first in
    let synced_next : file_in file next ≡ synced_file (put 1 text (seen_in file mid)) =
    ap (file_in file) wrote ∙ in-with file (synced_file (put 1 text (seen_in file mid))) mid in
    joined (OnlyIn file Q first) run
    (c.put_synced.ensures.any_moment told (put 1 text (seen_in file mid)) synced_next)
    (λ s keeps. keeps)
    (λ s keeps. only_from Q file (synced_file (put 1 text (seen_in file mid))) first next s from_first
    (only_weaker (IsInPart 0 1 (put 1 text (seen_in file mid))) Q file next s
    (λ f part. while_opened bytes (put 1 text (seen_in file mid)) tail new gate f c.ranges.position.fits c.write_text.ensures.small file_is part) keeps))

pub returns-clause-done : goal.returns-clause-done
returns-clause-done g c told bytes is =
    let d = g.D.Disk in
    let first = d.state c.args.disk.now in
    let file = c.args.file in
    let new = kept c.args.position c.args.body.now in
    let text = text_of new.position new.body in
    let shut = c.in_ok-shut.ensures.done told bytes is in
    let mid = d.state c.shut.new.disk in
    let gate = shut.1.gate in
    let synced : file_in file mid ≡ synced_file shut.0 = ap (file_in file) shut.2 ∙ in-with file (synced_file shut.0) first in
    let wrote = c.in_ok-write_text.ensures.done told in
    let next = d.state c.write_text.new.disk in
    let seen : seen_in file mid ≡ gate ∷ shut.1.rest = ap (λ (f : File). f.seen) synced ∙ shut.1.parts in
    let tail = drop (length text) shut.1.rest in
    let written = put 1 text (seen_in file mid) in
    let file_is : written ≡ gate ∷ (text ++ tail) = ap (put 1 text) seen ∙ with_text gate shut.1.rest text in
    let from_first : next ≡ with_file file (synced_file written) first =
    wrote ∙ ap (with_file file (synced_file written)) shut.2 ∙ with-with file (synced_file written) (synced_file shut.0) first in
    let seen_next : seen_in file next ≡ gate ∷ (text ++ tail) =
    ap (λ (s : State). seen_in file s) wrote ∙ ap (λ (f : File). f.seen) (in-with file (synced_file written) mid) ∙ file_is in
    on_ok_weaker c.put_synced.result
    (λ now. opened_slot file new gate tail (seen_in file next) written first next (d.state c.put_synced.new.disk)
    c.ranges.position.fits c.write_text.ensures.small seen_next from_first now)
    (c.put_synced.ensures.done told)

pub returns-clause-synced : goal.returns-clause-synced
returns-clause-synced g c =
    let text = keeps_then 0 1 c.in_ok-shut.ensures.synced c.in_ok-write_text.ensures.synced in
    on_ok_weaker c.put_synced.result (λ gate. keeps_then 1 1 text gate) c.put_synced.ensures.synced
