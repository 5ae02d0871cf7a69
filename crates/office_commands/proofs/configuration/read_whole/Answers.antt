use Rattle.std.proofs.Common.{◌≡◌, ◌∙◌, ◌≤◌, ap, sym, subst, arith, Ok, Err, List, ℕ, length}
use Rattle.std.specs.Io.KnownBytes.{Consumes}
use Rattle.std.proofs.KnownBytes.{Consumes-trans}
use Rattle.office_commands.proofs.RulesSaid.{same_fault, not_long, not_rules, after_quiet, all_quiet, whole_input}
use Rattle.office_commands.proofs.configuration.read_whole.Goals as goal

pub returns-in-Ok-eq0-clause-whole : goal.returns-in-Ok-eq0-clause-whole
returns-in-Ok-eq0-clause-whole g c =
    let took = c.in-Ok-eq0.ensures.took in
    let none : c.in-Ok-eq0.field-0 ≡ 0 = omega (arith, c.in-Ok-eq0.field-0-test) in
    let few : length c.taking.bytes.items ≤ 1_048_576 = omega (arith, c.taking-test.true, c.len.ensures) in
    whole_input (g.S.Source.left c.args.input.now) (g.S.Source.left c.taking.input) (g.S.Source.left c.read_on.new.input) c.taking.bytes.items took.0 c.read_on.new.bytes.items
    c.in-Ok-eq0.field-0 c.taking.invariant.gave took.3 took.2 took.1 none few (c.in-Ok-eq0.ensures.at_end (ap Ok none))

pub returns-in-Ok-eq0-clause-only_reads : goal.returns-in-Ok-eq0-clause-only_reads
returns-in-Ok-eq0-clause-only_reads g c =
    after_quiet g.S.Source c.args.input.now c.taking.input c.read_on.new.input c.taking.invariant.stream c.taking.invariant.faults
    (λ is. absurd cc) (λ is. absurd cc) c.in-Ok-eq0.ensures.only_reads

pub taking-preserved : goal.taking-preserved
taking-preserved g c =
    let took = c.in-Ok.ensures.took in
    let only = c.in-Ok.ensures.only_reads in
    record {
      gave =
          subst (λ (t : List ℕ). Consumes (g.S.Source.left c.args.input.now) (g.S.Source.left c.read_on.new.input) t) (sym took.2)
          (Consumes-trans (g.S.Source.left c.args.input.now) (g.S.Source.left c.taking.input) (g.S.Source.left c.read_on.new.input) c.taking.bytes.items took.0 c.taking.invariant.gave took.3);
      stream = only.stream ∙ c.taking.invariant.stream;
      faults = only.quiet (λ is. absurd cc) ∙ c.taking.invariant.faults;
    }

pub returns-in-Err-clause-too_long : goal.returns-in-Err-clause-too_long
returns-in-Err-clause-too_long g c = λ is. absurd (not_long c.in-Err.fault c.in-Err.ensures.faults (same_fault c.in-Err.fault _ is))

pub returns-in-Err-clause-faults : goal.returns-in-Err-clause-faults
returns-in-Err-clause-faults g c = λ other is. not_rules c.in-Err.fault other c.in-Err.ensures.faults (same_fault c.in-Err.fault _ is)

pub returns-in-Err-clause-only_reads : goal.returns-in-Err-clause-only_reads
returns-in-Err-clause-only_reads g c =
    after_quiet g.S.Source c.args.input.now c.taking.input c.read_on.new.input c.taking.invariant.stream c.taking.invariant.faults
    (λ is. ap Err (same_fault c.in-Err.fault _ is)) (λ is. ap Err (same_fault c.in-Err.fault _ is)) c.in-Err.ensures.only_reads

pub returns-clause-only_reads : goal.returns-clause-only_reads
returns-clause-only_reads g c =
    all_quiet g.S.Source c.args.input.now c.taking.input c.taking.invariant.stream c.taking.invariant.faults (λ is. absurd cc)
