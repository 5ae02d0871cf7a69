use Rattle.std.proofs.Common.{◌≡◌, ◌⊎◌, inl, inr, ⊎_elim, ℕ, Option, Some, None, Ok, length, rules, arith, refl, ◌∙◌, ap, sym, subst}
use Rattle.disk_core.specs.Files.{State}
use Rattle.disk_core.specs.declared.disk.FileNo.TheVariants.{Journal}
use Rattle.disk_core.proofs.Time.{started, only_reads_then}
use Rattle.meter_journal.specs.Reading.{Advances}
use Rattle.meter_journal.specs.Windows.{IsPart}
use Rattle.meter_journal.proofs.Parts.{no_part}
use Rattle.office_types.specs.Tokens.{MayCarry}
use Rattle.office_types.specs.declared.command.Entry.{Entry}
use Rattle.meter_journal.specs.declared.fault.OpenFault.TheVariants.{NoMemory, Damaged}
use Rattle.plain_office.specs.Office.{Office}
use Rattle.plain_office.specs.Run.{accept}
use Rattle.office_machine.specs.Once.{StandsFor}
use Rattle.desk_core.proofs.Replaying.{none_read, one_read, all_read, next_fails, take_fails, few_read}
use Rattle.desk_core.proofs.reopening.replay.Goals as goal

-- an entry that was read may carry its token
may_carry : (old new : ℕ) (read : Option Entry) (entry : Entry) → read ≡ Some entry → Advances (Ok read) old new → MayCarry entry.token entry.command
may_carry old new (Some other) entry is advances = let same : other ≡ entry = cc in subst (λ (e : Entry). MayCarry e.token e.command) same advances.0.carries
may_carry old new None entry is advances = absurd cc

pub reading-init : goal.reading-init
reading-init g c = record {
  known = c.requires.known;
  part = λ told. no_part c.in_ok-window.window.at c.in_ok-window.window.bytes (g.D.Disk.state c.args.journal.now.disk).journal.seen c.in_ok-window.ensures;
  untouched = record {
    tally = refl;
    files = λ told. started g.D.Disk c.args.journal.now.disk (λ s. s ≡ g.D.Disk.state c.args.journal.now.disk) (g.met.D.Disk.only_now c.args.journal.now.disk) refl;
  };
  read = none_read g.D.Disk c.args.journal.now.disk c.args.journal.now.gate c.args.journal.now.gate c.args.office.now refl c.requires.fresh;
  limit = refl;
  later = omega arith;
  quiet = refl;
}

pub reading-preserved : goal.reading-preserved
reading-preserved g c =
    let d = g.D.Disk in
    record {
      known = λ told. c.reading.invariant.known told ∙ ap (λ (s : State). length s.journal.seen) (sym (c.next_in.ensures.untouched.files told).now);
      part = λ told. subst (λ (s : State). IsPart c.next_in.new.window.at c.next_in.new.window.bytes s.journal.seen) (sym (c.next_in.ensures.untouched.files told).now) (c.next_in.ensures.part told);
      untouched = only_reads_then c.reading.invariant.untouched c.next_in.ensures.untouched;
      read =
          one_read d c.args.office.now c.args.journal.now.gate c.args.journal.now.disk c.reading.journal.disk c.reading.journal.gate c.next_in.new.self.gate c.reading.office c.reading.invariant.read
          (λ told. (c.reading.invariant.untouched.files told).now) c.take.new.office c.in-Ok.read c.in-Some.entry
          (λ told. g.met.D.Disk.holds_bytes told c.args.journal.now.disk Journal)
          c.in-Some.is c.in-Ok.ensures.exact c.in-Ok.ensures.advances (search rules) c.in-Ok-take.ensures.ok c.in-Ok-take.ensures.counted;
      limit = search rules;
      later = omega (arith, c.reading.invariant.later, c.next_in.ensures.cause.later);
      quiet = c.in-Ok.ensures.cause.quiet (λ is. absurd cc) ∙ c.reading.invariant.quiet;
    }

pub returns-in-None-clause-read : goal.returns-in-None-clause-read
returns-in-None-clause-read g c =
    let d = g.D.Disk in
    all_read d c.args.office.now c.args.journal.now.gate c.args.journal.now.disk c.reading.journal.disk c.reading.journal.gate c.next_in.new.self.gate c.reading.office c.reading.invariant.read
    (λ told. (c.reading.invariant.untouched.files told).now) c.in-Ok.read c.in-None.is c.in-Ok.ensures.exact c.in-Ok.ensures.advances

pub returns-in-Err-clause-fails : goal.returns-in-Err-clause-fails
returns-in-Err-clause-fails g c told file reads made =
    let d = g.D.Disk in
    next_fails d c.args.office.now c.args.journal.now.gate c.args.journal.now.disk c.reading.journal.disk c.reading.journal.gate c.next_in.new.self.gate c.reading.office c.reading.invariant.read
    (λ tells. (c.reading.invariant.untouched.files tells).now) told file reads made c.in-Err.fault (c.in-Err.ensures.exact told)

pub returns-in-Err-take-clause-fails : goal.returns-in-Err-take-clause-fails
returns-in-Err-take-clause-fails g c told file reads made =
    let d = g.D.Disk in
    let fault = c.in-Err-take.fault in
    take_fails d c.args.office.now c.args.journal.now.gate c.args.journal.now.disk c.reading.journal.disk c.reading.journal.gate c.next_in.new.self.gate c.reading.office c.reading.invariant.read
    (λ tells. (c.reading.invariant.untouched.files tells).now) told file reads made fault c.in-Ok.read c.in-Some.entry c.in-Some.is (c.in-Ok.ensures.exact told)
    (subst (λ (k : ℕ). (fault ≡ NoMemory) ⊎ ((fault ≡ Damaged k) × ((p : Office) → StandsFor c.reading.office p → accept p c.in-Some.entry ≡ None))) c.end-gate.ensures
    c.in-Err-take.ensures.damaged)

pub take-requires : goal.take-requires
take-requires g c =
    let d = g.D.Disk in
    record {
      few = few_read d c.args.office.now c.args.journal.now.gate c.args.journal.now.disk c.reading.journal.gate c.reading.office c.reading.invariant.read;
      carries = may_carry _ _ c.in-Ok.read c.in-Some.entry c.in-Some.is c.in-Ok.ensures.advances;
    }
