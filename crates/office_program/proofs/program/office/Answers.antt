use Rattle.std.proofs.Common.{◌≡◌, ◌⊎◌, ⊎_elim, arith, inl, inr, refl, sym, Err, map, subst, string_bytes, Option, Some, ap, ◌∙◌}
use Rattle.command_line.specs.Lines.{line_of}
use Rattle.command_line.specs.declared.line.CommandLine.{CommandLine}
use Rattle.command_line.proofs.Ranges.{serve_in_range}
use Rattle.serving.specs.Serving.{log_calls}
use Rattle.office_commands.specs.Running.{around, under, journal_limit}
use Rattle.office_program.specs.Workers.{AnswersWorkers, Connects}
use Rattle.office_program.proofs.Done.{serve_done, init_not_serve}
use Rattle.command_line.specs.declared.line.LineFault.TheVariants.{NotALine, NoMemory}
use Rattle.office_program.proofs.Done.{serve_none, late_none, no_billing, refusal_six}
use Rattle.office_program.proofs.Done.{refusal_none, refusal_known, refusal_line}
use Rattle.office_program.proofs.Owning.{not_init}
use Rattle.office_program.proofs.Soundness.{calls_sound, starts_sound}
use Rattle.office_program.proofs.Surviving.{does_carried, does_served, does_survive}
use Rattle.command_line.specs.Lines.{Line, init, serve, bill, forecast}
use Rattle.office_program.specs.Commands.{faults, IsDone}
use Rattle.office_program.specs.Program.{Obeys}
use Rattle.office_program.specs.Survival.{AnswersNothing, AnswersSafely}
use Rattle.office_program.specs.Worlds.{parts, world}
use Rattle.office_program.proofs.Beginning.{begins, leaves_sound}
use Rattle.office_program.proofs.Obeying.{refusal_obeys}
use Rattle.office_program.proofs.Carried.{never_rose, is_line, owned, caused, needs_no_port}
use Rattle.office_program.proofs.program.office.Goals as goal

pub serve-requires-clause-few : goal.serve-requires-clause-few
serve-requires-clause-few g c κs within = serve_in_range _ c.in-Serve.workers c.in-Serve.connections (map string_bytes c.args.words.now)
    (c.in-Ok.ensures.read ∙ ap (λ (l : CommandLine). Some (line_of l)) c.in-Serve.is)

pub returns-in-Serve-clause-sound : goal.returns-in-Serve-clause-sound
returns-in-Serve-clause-sound g c tells sound =
    let d = g.D.Disk in
    let k = g.C.Clock in
    let w = g.W.Replies in (
      c.serve.ensures.sound tells sound,
      starts_sound d k w tells c.args.port.now c.serve.new.port (λ first. AnswersWorkers d k w
          (Connects g.P.Port (g.G.Gate.let_through c.args.gate.now) c.as_str.result.now c.in-Serve.workers c.in-Serve.connections c.args.port.now c.serve.new.port))
          (λ first old new status sound a. calls_sound d k w tells journal_limit (under old) (under new) (log_calls a.log) sound a.answers)
          (around c.args.disk c.args.clock c.args.out.now) (around c.serve.result.disk c.serve.result.clock c.serve.new.out)
          c.serve.result.status sound (c.sound_now.ensures.still tells sound) c.serve.ensures.serves,
    )

-- ---- what a crash leaves

pub returns-in-Serve-clause-survives : goal.returns-in-Serve-clause-survives
returns-in-Serve-clause-survives g c honest sound =
    let all = parts g.S.Source g.D.Disk g.C.Clock g.W.Replies g.P.Port (g.G.Gate.let_through c.args.gate.now) g.K.BillKeeper in
    let has = c.sound_now.ensures.reads honest sound in
    let old = world c.args.disk c.args.clock c.args.out.now c.args.input.now c.args.port.now c.args.keeper.now in
    let new = world c.serve.result.disk c.serve.result.clock c.serve.new.out c.args.input.now c.serve.new.port c.args.keeper.now in
    let workers = c.in-Serve.workers in
    let connections = c.in-Serve.connections in
    let status = c.serve.result.status in
    let listen = string_bytes c.in-Serve.listen in
    let does = does_served all c.as_str.result.now listen workers connections old new status c.as_str.ensures.value c.serve.ensures.serves in
    subst (λ (l : Option Line). AnswersNothing all l old new ⊎ AnswersSafely all l old new)
    (sym (c.in-Ok.ensures.read ∙ ap (λ (l : CommandLine). Some (line_of l)) c.in-Serve.is))
    (does_survive all honest (serve listen workers connections) old new status sound has.0 has.1 c.sound_now.ensures.left
    (λ _ none. absurd (none listen workers connections refl)) (λ none. absurd (none listen workers connections refl)) does)

pub returns-in-Err-clause-survives : goal.returns-in-Err-clause-survives
returns-in-Err-clause-survives g c honest sound = inl (record {
  kept = c.sound_now.ensures.left;
  unsaid = c.refuse_line-status.ensures.silent.0;
  unread = λ _. refl;
  unused = refl;
})

pub returns-in_default-clause-survives : goal.returns-in_default-clause-survives
returns-in_default-clause-survives g c honest sound =
    let all = parts g.S.Source g.D.Disk g.C.Clock g.W.Replies g.P.Port (g.G.Gate.let_through c.args.gate.now) g.K.BillKeeper in
    let has = c.sound_now.ensures.reads honest sound in
    let line = line_of c.in-Ok.command in
    let old = world c.args.disk c.args.clock c.args.out.now c.args.input.now c.args.port.now c.args.keeper.now in
    let new = world c.carry_out.result.disk c.carry_out.result.clock c.carry_out.new.out c.carry_out.new.input c.args.port.now c.carry_out.new.keeper in
    subst (λ (l : Option Line). AnswersNothing all l old new ⊎ AnswersSafely all l old new)
    (sym c.in-Ok.ensures.read)
    (does_survive all honest line old new c.carry_out.result.status sound has.0 has.1 c.sound_now.ensures.left
    (λ no_run _. c.carry_out.ensures.only.unsaid no_run) (λ _. refl)
    (does_carried all line old new c.carry_out.result.status c.carry_out.ensures.does))

-- ---- what is done

pub returns-in-Serve-clause-does : goal.returns-in-Serve-clause-does
returns-in-Serve-clause-does g c =
    let all = parts g.S.Source g.D.Disk g.C.Clock g.W.Replies g.P.Port (g.G.Gate.let_through c.args.gate.now) g.K.BillKeeper in
    let old = world c.args.disk c.args.clock c.args.out.now c.args.input.now c.args.port.now c.args.keeper.now in
    let new = world c.serve.result.disk c.serve.result.clock c.serve.new.out c.args.input.now c.serve.new.port c.args.keeper.now in
    subst (λ (l : Option Line). Obeys all l old new c.serve.result.status)
    (sym (c.in-Ok.ensures.read ∙ ap (λ (l : CommandLine). Some (line_of l)) c.in-Serve.is))
    (inl (does_served all c.as_str.result.now (string_bytes c.in-Serve.listen) c.in-Serve.workers c.in-Serve.connections old new
    c.serve.result.status c.as_str.ensures.value c.serve.ensures.serves))

pub returns-in-Serve-clause-complete : goal.returns-in-Serve-clause-complete
returns-in-Serve-clause-complete g c tells some good none eight =
    let e = c.serve.ensures in
    inl (serve_done c.serve.result.status (λ two. none.0 (e.disk_fault two))
    (λ five. ⊎_elim
    (λ sound. e.sound tells sound five)
    (λ other. init_not_serve _ _ _ _ other.0 (c.in-Ok.ensures.read ∙ ap (λ (l : CommandLine). Some (line_of l)) c.in-Serve.is)) good)
    (λ seven. none.3 (e.port_fault seven)) (⊎_elim (λ is. absurd (eight is)) (λ is. is) e.statuses))

pub returns-in-Err-clause-sound : goal.returns-in-Err-clause-sound
returns-in-Err-clause-sound g c tells sound =
    let r = c.refuse_line-status.ensures in (
      refusal_none c.in-Err.fault c.refuse_line-status.result (λ is. (r.usage is).0) (λ is. (r.memory is).0) 5 refl,
      c.sound_now.ensures.still tells sound,
    )

pub returns-in-Serve-clause-causes : goal.returns-in-Serve-clause-causes
returns-in-Serve-clause-causes g c =
    let e = c.serve.ensures in
    let line = c.in-Ok.ensures.read ∙ ap (λ (l : CommandLine). Some (line_of l)) c.in-Serve.is in
    record {
      known = ⊎_elim (λ eight. inr (inl eight)) (λ is. inr (inr (inr (inl is)))) e.statuses;
      usage = λ one. absurd (late_none _ 1 refl (serve_none _ 1 refl) e.statuses one);
      disk_fault = e.disk_fault;
      read_fault = λ three. absurd (late_none _ 3 refl (serve_none _ 3 refl) e.statuses three);
      read_done = λ _. refl;
      write_fault = λ four. absurd (late_none _ 4 refl (serve_none _ 4 refl) e.statuses four);
      foreign_file = λ is. absurd (not_init _ _ line (λ other. absurd cc) is);
      port_fault = e.port_fault;
      port_done = e.port_done;
      clock_end = λ _. not_init _ _ line (λ other. absurd cc);
      input_spent = λ nine. absurd (late_none _ 9 refl (serve_none _ 9 refl) e.statuses nine);
      no_tariff = λ ten. absurd (late_none _ 10 refl (serve_none _ 10 refl) e.statuses ten);
      keeper_fault = λ eleven. absurd (late_none _ 11 refl (serve_none _ 11 refl) e.statuses eleven);
      keeper_done = λ _. refl;
      bill_only = no_billing (late_none _ 11 refl (serve_none _ 11 refl) e.statuses) (late_none _ 12 refl (serve_none _ 12 refl) e.statuses) (late_none _ 13 refl (serve_none _ 13 refl) e.statuses);
      input_only = λ three. absurd (late_none _ 3 refl (serve_none _ 3 refl) e.statuses three);
      forecast_only = λ fourteen. absurd (late_none _ 14 refl (serve_none _ 14 refl) e.statuses fourteen);
    }

pub returns-in-Err-clause-causes : goal.returns-in-Err-clause-causes
returns-in-Err-clause-causes g c =
    let r = c.refuse_line-status.ensures in
    let one = λ (is : c.in-Err.fault ≡ NotALine). (r.usage is).0 in
    let six = λ (is : c.in-Err.fault ≡ NoMemory). (r.memory is).0 in
    let none = refusal_none c.in-Err.fault c.refuse_line-status.result one six in
    record {
      known = refusal_known c.in-Err.fault c.refuse_line-status.result one six;
      usage = refusal_line c.in-Err.fault _ c.refuse_line-status.result (λ is. c.in-Err.ensures.refused (ap Err is)) six;
      disk_fault = λ two. absurd (none 2 refl two);
      read_fault = λ three. absurd (none 3 refl three);
      read_done = λ _. refl;
      write_fault = λ four. absurd (none 4 refl four);
      foreign_file = λ _ five. absurd (none 5 refl five);
      port_fault = λ seven. absurd (none 7 refl seven);
      port_done = λ _. omega arith;
      clock_end = λ eight _. none 8 refl eight;
      input_spent = λ nine. absurd (none 9 refl nine);
      no_tariff = λ ten. absurd (none 10 refl ten);
      keeper_fault = λ eleven. absurd (none 11 refl eleven);
      keeper_done = λ _. refl;
      bill_only = no_billing (none 11 refl) (none 12 refl) (none 13 refl);
      input_only = λ three. absurd (none 3 refl three);
      forecast_only = λ fourteen. absurd (none 14 refl fourteen);
    }

-- ---- bills

pub returns-in-Err-clause-billable : goal.returns-in-Err-clause-billable
returns-in-Err-clause-billable g c month history is tells sound has can none eight =
    inr (refusal_six c.in-Err.fault _ _ c.refuse_line-status.result (λ refused. c.in-Err.ensures.refused (ap Err refused)) (λ lacks. (c.refuse_line-status.ensures.memory lacks).0) is)

-- ---- forecasts

pub returns-in-Err-clause-forecastable : goal.returns-in-Err-clause-forecastable
returns-in-Err-clause-forecastable g c bucket day history bytes is tells sound has left can none eight =
    inr (refusal_six c.in-Err.fault _ _ c.refuse_line-status.result (λ refused. c.in-Err.ensures.refused (ap Err refused)) (λ lacks. (c.refuse_line-status.ensures.memory lacks).0) is)

-- ---- what was carried out without a port

pub carry_out-requires-clause-no_port : goal.carry_out-requires-clause-no_port
carry_out-requires-clause-no_port g c κs within = needs_no_port c.in-Ok.command (map string_bytes c.args.words.now) c.in-Ok.ensures.read c.in_default.not-Serve

pub returns-in-Err-clause-does : goal.returns-in-Err-clause-does
returns-in-Err-clause-does g c =
    let r = c.refuse_line-status in
    refusal_obeys (parts g.S.Source g.D.Disk g.C.Clock g.W.Replies g.P.Port (g.G.Gate.let_through c.args.gate.now) g.K.BillKeeper)
    (world c.args.disk c.args.clock c.args.out.now c.args.input.now c.args.port.now c.args.keeper.now)
    (world c.args.disk c.args.clock r.new.out c.args.input.now c.args.port.now c.args.keeper.now)
    r.result c.in-Err.fault _ (λ is. c.in-Err.ensures.refused (ap Err is)) r.ensures.usage r.ensures.memory r.ensures.silent refl

pub returns-in_default-clause-does : goal.returns-in_default-clause-does
returns-in_default-clause-does g c =
    let all = parts g.S.Source g.D.Disk g.C.Clock g.W.Replies g.P.Port (g.G.Gate.let_through c.args.gate.now) g.K.BillKeeper in
    let line = line_of c.in-Ok.command in
    let old = world c.args.disk c.args.clock c.args.out.now c.args.input.now c.args.port.now c.args.keeper.now in
    let new = world c.carry_out.result.disk c.carry_out.result.clock c.carry_out.new.out c.carry_out.new.input c.args.port.now c.carry_out.new.keeper in
    subst (λ (l : Option Line). Obeys all l old new c.carry_out.result.status) (sym c.in-Ok.ensures.read)
    (inl (does_carried all line old new c.carry_out.result.status c.carry_out.ensures.does))

pub returns-in_default-clause-only : goal.returns-in_default-clause-only
returns-in_default-clause-only g c =
    let read = c.in-Ok.ensures.read in
    let line = line_of c.in-Ok.command in
    let e = c.carry_out.ensures in
    owned _ line read g.W.Replies _ _ _ _ _ _ refl e.only

pub returns-in_default-clause-causes : goal.returns-in_default-clause-causes
returns-in_default-clause-causes g c =
    let read = c.in-Ok.ensures.read in
    let line = line_of c.in-Ok.command in
    let e = c.carry_out.ensures in
    let d = g.D.Disk in
    let s = g.S.Source in
    let w = g.W.Replies in
    let b = g.K.BillKeeper in
    let p = g.P.Port.faults c.args.port.now in
    caused _ line read
    (faults (d.fault_count c.args.disk) (s.faults c.args.input.now) (w.faults c.args.out.now) p (b.faults c.args.keeper.now))
    (faults (d.fault_count c.carry_out.result.disk) (s.faults c.carry_out.new.input) (w.faults c.carry_out.new.out) p (b.faults c.carry_out.new.keeper))
    p _ _ _ e.causes

pub returns-in_default-clause-complete : goal.returns-in_default-clause-complete
returns-in_default-clause-complete g c tells some good none eight =
    let read = c.in-Ok.ensures.read in
    let line = line_of c.in-Ok.command in
    let e = c.carry_out.ensures in
    subst (λ (l : Option Line). IsDone l c.carry_out.result.status) (sym read)
    (e.complete tells (⊎_elim (λ sound. inl sound) (λ other. inr (is_line _ line read init other.0, other.1)) good)
    (none.0, none.1, none.2, never_rose) eight)

pub returns-in_default-clause-billable : goal.returns-in_default-clause-billable
returns-in_default-clause-billable g c month history is tells sound has can none eight =
    let read = c.in-Ok.ensures.read in
    let line = line_of c.in-Ok.command in
    let e = c.carry_out.ensures in
    e.billable month history (is_line _ line read (bill month) is) tells sound has can none eight

pub returns-in_default-clause-forecastable : goal.returns-in_default-clause-forecastable
returns-in_default-clause-forecastable g c bucket day history bytes is tells sound has left can none eight =
    let read = c.in-Ok.ensures.read in
    let line = line_of c.in-Ok.command in
    let e = c.carry_out.ensures in
    e.forecastable bucket day history bytes (is_line _ line read (forecast bucket day) is) tells sound has left can none eight

-- ---- from init on

pub returns-in-Serve-clause-begins : goal.returns-in-Serve-clause-begins
returns-in-Serve-clause-begins g c =
    begins (parts g.S.Source g.D.Disk g.C.Clock g.W.Replies g.P.Port (g.G.Gate.let_through c.args.gate.now) g.K.BillKeeper) _
    (world c.args.disk c.args.clock c.args.out.now c.args.input.now c.args.port.now c.args.keeper.now)
    (world c.serve.result.disk c.serve.result.clock c.serve.new.out c.args.input.now c.serve.new.port c.args.keeper.now)
    c.serve.result.status (returns-in-Serve-clause-does g c)

pub returns-in-Err-clause-begins : goal.returns-in-Err-clause-begins
returns-in-Err-clause-begins g c =
    let r = c.refuse_line-status in
    begins (parts g.S.Source g.D.Disk g.C.Clock g.W.Replies g.P.Port (g.G.Gate.let_through c.args.gate.now) g.K.BillKeeper) _
    (world c.args.disk c.args.clock c.args.out.now c.args.input.now c.args.port.now c.args.keeper.now)
    (world c.args.disk c.args.clock r.new.out c.args.input.now c.args.port.now c.args.keeper.now)
    r.result (returns-in-Err-clause-does g c)

pub returns-in_default-clause-begins : goal.returns-in_default-clause-begins
returns-in_default-clause-begins g c =
    begins (parts g.S.Source g.D.Disk g.C.Clock g.W.Replies g.P.Port (g.G.Gate.let_through c.args.gate.now) g.K.BillKeeper) _
    (world c.args.disk c.args.clock c.args.out.now c.args.input.now c.args.port.now c.args.keeper.now)
    (world c.carry_out.result.disk c.carry_out.result.clock c.carry_out.new.out c.carry_out.new.input c.args.port.now c.carry_out.new.keeper)
    c.carry_out.result.status (returns-in_default-clause-does g c)

-- ---- after a crash

pub returns-in-Serve-clause-restarts : goal.returns-in-Serve-clause-restarts
returns-in-Serve-clause-restarts g c =
    leaves_sound (parts g.S.Source g.D.Disk g.C.Clock g.W.Replies g.P.Port (g.G.Gate.let_through c.args.gate.now) g.K.BillKeeper)
    (world c.args.disk c.args.clock c.args.out.now c.args.input.now c.args.port.now c.args.keeper.now)
    (world c.serve.result.disk c.serve.result.clock c.serve.new.out c.args.input.now c.serve.new.port c.args.keeper.now)
    c.serve.result.status (returns-in-Serve-clause-sound g c)

pub returns-in-Err-clause-restarts : goal.returns-in-Err-clause-restarts
returns-in-Err-clause-restarts g c =
    let r = c.refuse_line-status in
    leaves_sound (parts g.S.Source g.D.Disk g.C.Clock g.W.Replies g.P.Port (g.G.Gate.let_through c.args.gate.now) g.K.BillKeeper)
    (world c.args.disk c.args.clock c.args.out.now c.args.input.now c.args.port.now c.args.keeper.now)
    (world c.args.disk c.args.clock r.new.out c.args.input.now c.args.port.now c.args.keeper.now)
    r.result (returns-in-Err-clause-sound g c)

pub returns-in_default-clause-restarts : goal.returns-in_default-clause-restarts
returns-in_default-clause-restarts g c =
    leaves_sound (parts g.S.Source g.D.Disk g.C.Clock g.W.Replies g.P.Port (g.G.Gate.let_through c.args.gate.now) g.K.BillKeeper)
    (world c.args.disk c.args.clock c.args.out.now c.args.input.now c.args.port.now c.args.keeper.now)
    (world c.carry_out.result.disk c.carry_out.result.clock c.carry_out.new.out c.carry_out.new.input c.args.port.now c.carry_out.new.keeper)
    c.carry_out.result.status c.carry_out.ensures.sound
