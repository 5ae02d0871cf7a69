use Rattle.std.proofs.Common.{◌≡◌, ⊎_elim, ℕ, ◌-◌, ◌^◌, ◌<◌, ◌≤◌, Bool, false, List, Result, inr, sym, ap, ◌∙◌, subst}
use Rattle.std.specs.Io.KnownBytes.{Appends}
use Rattle.office_base.specs.Faults.{Rose}
use Rattle.slots.specs.declared.fault.SaveFault.{SaveFault}
use Rattle.slots.specs.Causes.{HasSaveCause}
use Rattle.desk_core.specs.Closing.{Closes}
use Rattle.desk_core.specs.Numbers.{AreNumbers}
use Rattle.desk_core.specs.Serving.{AreToldBy}
use Rattle.desk_core.specs.Runs.{AnswersLegally, outside, stale_by}
use Rattle.serving.specs.Serving.{log_calls}
use Rattle.office_program.specs.Workers.{workers_after, workers_exit, workers_note}
use Rattle.office_commands.specs.Lines.{store_after}
use Rattle.office_commands.specs.Running.{journal_limit, IsNoted}
use Rattle.office_commands.proofs.Answering.{failed_by}
use Rattle.office_program.proofs.Working.{port_after, seven_port, two_failed}
use Rattle.office_program.proofs.serve.answer.Goals as goal

pub returns-clause-answers : goal.returns-clause-answers
returns-clause-answers g c disk clock opens =
    let d = g.D.Disk in
    let w = g.W.Replies in
    let k = g.C.Clock in
    let closed = c.serve_office-closed.result in
    let served = c.serve_office-closed.ensures.serves disk clock journal_limit opens in
    let calls = log_calls served.0 in
    let answers = served.1 in
    let ended = c.close.ensures in
    let moved = answers.calls_are in
    let same : closed.saved ≡ moved.saved = sym served.4 in
    let ends : c.close.result.status ≡ workers_exit (workers_after closed.end moved.saved) (store_after (stale_by false calls) moved.saved) =
    ended.status ∙ ap (λ (b : Bool). workers_exit (workers_after closed.end closed.saved) (store_after b closed.saved)) served.3
    ∙ ap (λ (s : Result (Unit {0}) SaveFault). workers_exit (workers_after closed.end s) (store_after (stale_by false calls) s)) same in
    let line = ap (λ (b : Bool). workers_note (workers_after closed.end closed.saved) (store_after b closed.saved)) served.3
    ∙ ap (λ (s : Result (Unit {0}) SaveFault). workers_note (workers_after closed.end s) (store_after (stale_by false calls) s)) same in
    record {
      log = served.0;
      answers = record {
        calls_are = record {
          first = moved.first;
          opens = moved.opens;
          last = moved.last;
          moved = moved.moved;
          saved = moved.saved;
          closes = subst (λ (x : g.row.D.Denot). Closes d moved.last x moved.saved) (sym ended.disk) moved.closes;
          cause = subst (λ (x : g.row.D.Denot). HasSaveCause (d.fault_count moved.last.disk) (d.fault_count x) moved.saved) (sym ended.disk) moved.cause;
          clock = ended.clock ∙ moved.clock;
        };
        sound = λ tells sound. subst (λ (x : g.row.D.Denot). AnswersLegally d k journal_limit (outside disk clock) (outside x c.close.result.clock) calls) (sym ended.disk)
            (subst (λ (x : g.row.C.Denot). AnswersLegally d k journal_limit (outside disk clock) (outside closed.disk x) calls) (sym ended.clock) (answers.sound tells sound));
        faults = subst (λ (x : g.row.D.Denot). (d.fault_count disk ≤ d.fault_count x) × AreToldBy (d.fault_count x) calls) (sym ended.disk) answers.faults;
        numbers = subst (λ (x : g.row.C.Denot). k.count x < 2 ^ 64 - 1 → (list : List ℕ) × AreNumbers calls list × Appends (k.told clock) (k.told x) list) (sym ended.clock) answers.numbers;
      };
      end = closed.end;
      connections = record { listens = c.serve_office-closed.ensures.listens; counts = c.serve_office-closed.ensures.counts; shifts = c.serve_office-closed.ensures.shifts; divided = served.2 };
      silent = ended.silent;
      status_is = ends;
      note = subst (λ (t : List ℕ). IsNoted w c.args.out.now c.close.new.out t) line ended.noted;
    }

pub returns-clause-balanced : goal.returns-clause-balanced
returns-clause-balanced g c =
    let counts = c.serve_office-closed.ensures.counts in
    inr (counts.count, counts.given, counts.ended)

pub returns-clause-disk_fault : goal.returns-clause-disk_fault
returns-clause-disk_fault g c two =
    let d = g.D.Disk in
    let closed = c.serve_office-closed.result in
    subst (λ (x : g.row.D.Denot). Rose (d.fault_count c.args.desk.disk) (d.fault_count x)) (sym c.close.ensures.disk)
    (⊎_elim (λ stale. c.serve_office-closed.ensures.store.1 stale) (λ fault. c.serve_office-closed.ensures.unsaved fault)
    (failed_by closed.stale closed.saved (two_failed (workers_after closed.end closed.saved) (store_after closed.stale closed.saved) c.close.result.status c.close.ensures.status two)))

pub returns-clause-port_fault : goal.returns-clause-port_fault
returns-clause-port_fault g c seven =
    let closed = c.serve_office-closed in
    closed.ensures.failed (seven_port closed.result.end closed.result.saved (store_after closed.result.stale closed.result.saved) c.close.result.status c.close.ensures.status seven)

pub returns-clause-port_done : goal.returns-clause-port_done
returns-clause-port_done g c not =
    let closed = c.serve_office-closed in
    closed.ensures.quiet (λ is. not (port_after closed.result.end closed.result.saved (store_after closed.result.stale closed.result.saved) c.close.result.status c.close.ensures.status is))
