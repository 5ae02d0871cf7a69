use Rattle.std.proofs.Common.{◌∙◌, ℕ, List, Bool, ap, subst, arith}
use Rattle.disk_core.proofs.Laws.{laws_of}
use Rattle.desk_core.proofs.Following.{disk_later}
use Rattle.http_front.specs.Counts.{stream_ends}
use Rattle.http_front.specs.Exchanges.{calls_of}
use Rattle.http_front.specs.declared.answering.SessionEnd.{SessionEnd}
use Rattle.office_commands.specs.Lines.{session_exit, end_after, end_note, store_after}
use Rattle.office_commands.specs.Running.{IsNoted}
use Rattle.office_commands.proofs.Answering.{stream_answered, store_rose, zero_unnoted, zero_after, read_after}
use Rattle.office_commands.proofs.running.answer.Goals as goal

pub returns-clause-answers : goal.returns-clause-answers
returns-clause-answers g c disk clock opens =
    let d = g.D.Disk in
    let w = g.W.Replies in
    let k = g.C.Clock in
    let end = c.session-end.result in
    let mid = c.session-end.new.out in
    let new = c.note_line.new.out in
    let desk = c.session-end.new.teller in
    let last = c.finish-disk.result.0 in
    let saved = c.finish-disk.result.2 in
    let read = stream_ends (g.S.Source.left c.args.input.now) (g.S.Source.left c.session-end.new.source) in
    let line = c.end_line.ensures ∙ ap (λ (e : SessionEnd). end_note e c.store_failed-store.result) c.ended-outcome.ensures
    ∙ ap (λ (b : Bool). end_note (end_after end saved) b) c.store_failed-store.ensures in
    let note = subst (λ (t : List ℕ). IsNoted w mid new t) line c.note_line.ensures.noted in
    let status = c.run_exit.ensures ∙ ap (λ (e : SessionEnd). session_exit e c.store_failed-store.result) c.ended-outcome.ensures
    ∙ ap (λ (b : Bool). session_exit (end_after end saved) b) c.store_failed-store.ensures in
    stream_answered (laws_of g.met.D.Disk) k w disk clock c.args.desk desk last saved c.finish-disk.result.1 c.args.out.now mid new read end c.stale-stale.result c.run_exit.result
    opens c.session-end.ensures.session c.session-end.ensures.taken c.finish-disk.ensures.closes c.finish-disk.ensures.cause c.finish-disk.ensures.clock
    c.note_line.ensures.silent c.session-end.ensures.only_says note c.stale-stale.ensures status

pub returns-clause-later : goal.returns-clause-later
returns-clause-later g c =
    let d = g.D.Disk in
    let s = c.session-end.ensures.session in (
      c.session-end.ensures.only_reads.later,
      omega (arith, c.session-end.ensures.only_says.later, c.note_line.ensures.later),
      omega (arith, disk_later d g.C.Clock c.args.desk c.session-end.new.teller (calls_of s.talk.spoken.exchanges) s.moved, c.finish-disk.ensures.cause.later),
    )

pub returns-clause-disk_fault : goal.returns-clause-disk_fault
returns-clause-disk_fault g c two =
    let d = g.D.Disk in
    let s = c.session-end.ensures.session in
    let status = c.run_exit.ensures ∙ ap (λ (b : Bool). session_exit c.ended-outcome.result b) c.store_failed-store.ensures in
    store_rose d g.C.Clock c.args.desk c.session-end.new.teller c.finish-disk.result.0 c.finish-disk.result.2 c.ended-outcome.result c.stale-stale.result c.run_exit.result
    (calls_of s.talk.spoken.exchanges) c.requires.fresh c.stale-stale.ensures c.finish-disk.ensures.cause status two s.moved

pub returns-clause-unnoted : goal.returns-clause-unnoted
returns-clause-unnoted g c zero =
    let w = g.W.Replies in
    let end = c.session-end.result in
    let says = c.session-end.ensures.only_says in
    let is = c.run_exit.ensures in
    let same = c.note_line.ensures.noted.0 (c.end_line.ensures ∙ zero_unnoted c.ended-outcome.result c.store_failed-store.result c.run_exit.result is zero) in
    (ap w.noted same ∙ says.noted, ap w.faults same ∙ says.quiet (zero_after end c.finish-disk.result.2 c.ended-outcome.result c.store_failed-store.result c.run_exit.result c.ended-outcome.ensures is zero))

pub returns-clause-read_done : goal.returns-clause-read_done
returns-clause-read_done g c not =
    c.session-end.ensures.only_reads.quiet
    (λ failed. not (read_after c.session-end.result c.finish-disk.result.2 c.ended-outcome.result c.store_failed-store.result c.run_exit.result c.ended-outcome.ensures c.run_exit.ensures failed))
