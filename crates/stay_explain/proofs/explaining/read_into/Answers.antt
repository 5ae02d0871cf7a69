use Rattle.std.proofs.Common.{◌≡◌, ◌∙◌, ◌+◌, ◌<◌, ◌^◌, ◌++◌, ◌∷◌, [], List, IsTrue, ap, sym, subst, refl, length, rules, arith}
use Rattle.disk_core.specs.Files.{State}
use Rattle.disk_core.specs.declared.disk.FileNo.TheVariants.{Journal}
use Rattle.disk_core.proofs.Time.{started, only_reads_then}
use Rattle.office_types.specs.declared.command.Entry.{Entry}
use Rattle.entry_codec.specs.Spelling.{EntryFits, spelling}
use Rattle.meter_journal.specs.Reading.{frame_at, FrameFails, Whole, Ended}
use Rattle.meter_journal.specs.Windows.{IsPart}
use Rattle.meter_journal.proofs.Parts.{no_part}
use Rattle.stay_explain.specs.Ledgers.{IsLedgerOf}
use Rattle.stay_explain.proofs.Readings.{none_read, one_read, all_read, few_read, take_fails, frame_fails}
use Rattle.stay_explain.proofs.explaining.read_into.Goals as goal

pub reading-init : goal.reading-init
reading-init g c = record {
  known = c.requires.known;
  part = λ told. no_part c.in_ok-window.window.at c.in_ok-window.window.bytes (g.D.Disk.state c.args.disk.now).journal.seen c.in_ok-window.ensures;
  untouched = record {
    tally = refl;
    files = λ told. started g.D.Disk c.args.disk.now (λ s. s ≡ g.D.Disk.state c.args.disk.now) (g.met.D.Disk.only_now c.args.disk.now) refl;
  };
  read = none_read g.D.Disk c.args.disk.now c.args.ledger.now c.requires.made c.requires.empty;
  later = omega arith;
  quiet = refl;
}

pub take-requires-clause-known : goal.take-requires-clause-known
take-requires-clause-known g c = (c.reading.invariant.read.history, c.reading.invariant.read.is)

pub take-requires-clause-few : goal.take-requires-clause-few
take-requires-clause-few g c = few_read g.D.Disk c.args.disk.now c.reading.gate c.reading.ledger c.reading.invariant.read

pub take-requires-clause-carries : goal.take-requires-clause-carries
take-requires-clause-carries g c =
    let fits : EntryFits c.in-Ok-Some.entry × (c.in-Ok-Some.next ≡ c.reading.gate + 5 + length (spelling c.in-Ok-Some.entry)) = search rules in
    fits.0.carries

pub returns-in-Err-take-clause-fails : goal.returns-in-Err-take-clause-fails
returns-in-Err-take-clause-fails g c told =
    let d = g.D.Disk in
    let here : frame_at c.reading.gate (d.state c.reading.disk).journal.seen ≡ Whole c.in-Ok-Some.entry c.in-Ok-Some.next = search (c.in-Ok-Some.ensures.exact told, rules) in
    take_fails d c.args.disk.now c.reading.gate c.reading.ledger c.reading.invariant.read told c.in-Err-take.fault (c.requires.made told) c.in-Ok-Some.next c.in-Ok-Some.entry
    (ap (λ (s : State). frame_at c.reading.gate s.journal.seen) (sym (c.reading.invariant.untouched.files told).now) ∙ here) c.in-Err-take.ensures.fault

pub reading-smaller : goal.reading-smaller
reading-smaller g c =
    let rises : (c.reading.gate < c.in-Ok-Some.next) × (c.in-Ok-Some.next < 2 ^ 45) = search rules in
    omega (arith, rises.0, rises.1)

pub reading-preserved : goal.reading-preserved
reading-preserved g c =
    let d = g.D.Disk in
    let entry = c.in-Ok-Some.entry in
    let next = c.in-Ok-Some.next in
    let here : IsTrue d.tells → frame_at c.reading.gate (d.state c.reading.disk).journal.seen ≡ Whole entry next = λ told. search (c.in-Ok-Some.ensures.exact told, rules) in
    let fits : EntryFits entry × (next ≡ c.reading.gate + 5 + length (spelling entry)) = search rules in
    let rises : (c.reading.gate < next) × (next < 2 ^ 45) = search rules in
    let taken : (history : List Entry) → IsLedgerOf history c.reading.ledger → IsLedgerOf (history ++ entry ∷ []) c.take.new.ledger = search rules in
    record {
      known = λ told. c.reading.invariant.known told ∙ ap (λ (s : State). length s.journal.seen) (sym (c.frame_in.ensures.untouched.files told).now);
      part = λ told. subst (λ (s : State). IsPart c.frame_in.new.window.at c.frame_in.new.window.bytes s.journal.seen) (sym (c.frame_in.ensures.untouched.files told).now) (c.frame_in.ensures.part told);
      untouched = only_reads_then c.reading.invariant.untouched c.frame_in.ensures.untouched;
      read = one_read d c.args.disk.now c.reading.gate c.reading.ledger c.reading.invariant.read next c.take.new.ledger entry
          (λ told. g.met.D.Disk.holds_bytes told c.args.disk.now Journal)
          (λ told. ap (λ (s : State). frame_at c.reading.gate s.journal.seen) (sym (c.reading.invariant.untouched.files told).now) ∙ here told) fits.0 fits.1 rises.1 taken;
      later = omega (arith, c.reading.invariant.later, c.frame_in.ensures.cause.later);
      quiet = c.in-Ok-Some.ensures.cause.quiet (λ is. absurd cc) ∙ c.reading.invariant.quiet;
    }

pub returns-in-Ok-None-clause-read : goal.returns-in-Ok-None-clause-read
returns-in-Ok-None-clause-read g c =
    let d = g.D.Disk in
    let here : IsTrue d.tells → frame_at c.reading.gate (d.state c.reading.disk).journal.seen ≡ Ended = λ told. search (c.in-Ok-None.ensures.exact told, rules) in
    all_read d c.args.disk.now c.reading.gate c.reading.ledger c.reading.invariant.read
    (λ told. ap (λ (s : State). frame_at c.reading.gate s.journal.seen) (sym (c.reading.invariant.untouched.files told).now) ∙ here told)

pub returns-in-Err-clause-fails : goal.returns-in-Err-clause-fails
returns-in-Err-clause-fails g c told =
    frame_fails g.D.Disk c.args.disk.now c.reading.gate c.reading.ledger c.reading.invariant.read told c.in-Err.fault (c.requires.made told)
    (subst (λ (s : State). FrameFails c.in-Err.fault c.reading.gate (frame_at c.reading.gate s.journal.seen)) (c.reading.invariant.untouched.files told).now (c.in-Err.ensures.exact told))

pub returns-in-Err-clause-untouched : goal.returns-in-Err-clause-untouched
returns-in-Err-clause-untouched g c = only_reads_then c.reading.invariant.untouched c.frame_in.ensures.untouched
