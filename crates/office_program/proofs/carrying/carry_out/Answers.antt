use Rattle.std.proofs.Common.{◌≡◌, ⊎_elim, arith, inl, inr, refl, ℕ, List, subst, Some, ap}
use Rattle.command_line.specs.Lines.{line_of}
use Rattle.command_line.specs.declared.line.CommandLine.{CommandLine}
use Rattle.http_front.specs.Counts.{stream_ends}
use Rattle.http_front.specs.Exchanges.{calls_of}
use Rattle.office_commands.specs.Billing.{billing, BillsMonth, CanBill}
use Rattle.office_commands.specs.Forecasting.{asking, ForecastsBucket, CanForecast}
use Rattle.office_commands.specs.Reporting.{TellsMonth}
use Rattle.office_commands.specs.Running.{around, under, journal_limit, AnswersStream}
use Rattle.office_program.specs.Carrying.{NeedsNoPort}
use Rattle.office_commands.proofs.Billable.{bill_done as billable}
use Rattle.office_commands.proofs.Foretellable.{forecast_done as forecastable}
use Rattle.office_commands.proofs.Said.{said_is_run}
use Rattle.office_program.proofs.Done.{init_not_explain, run_done, report_done, init_not_run, init_not_report}
use Rattle.office_program.proofs.Done.{run_none, said_none, late_none, report_none, bill_none, bill_done, no_billing, init_not_bill, same_bill}
use Rattle.office_program.proofs.Done.{forecast_none, forecast_done, init_not_forecast, same_forecast}
use Rattle.office_program.proofs.Owning.{not_run, not_init, not_serve, prints, bills, runs, foretells}
use Rattle.office_program.proofs.Soundness.{not_foreign_there, init_sound, calls_sound, explained_sound, reported_sound, billed_sound, foretold_sound, starts_sound}
use Rattle.office_program.proofs.carrying.carry_out.Goals as goal

pub returns-in-Init-clause-sound : goal.returns-in-Init-clause-sound
returns-in-Init-clause-sound g c tells sound =
    let has = c.sound_now.ensures.reads tells sound in (
      λ five. not_foreign_there (g.D.Disk.state c.args.disk).journal.seen has.0 has.1 (c.init-status.ensures.foreign tells five),
      init_sound g.D.Disk g.W.Replies tells c.init-status.result c.args.disk c.init-status.new.disk c.args.out.now c.init-status.new.out has.0 sound has.1 c.init-status.ensures.inits,
    )

pub returns-in-Init-clause-complete : goal.returns-in-Init-clause-complete
returns-in-Init-clause-complete g c tells good none eight =
    let e = c.init-status.ensures in
    let file = (g.D.Disk.state c.args.disk).journal.seen in
    inl (run_done c.init-status.result (λ two. none.0 (e.disk_fault two))
    (λ five. ⊎_elim
    (λ sound. let has = c.sound_now.ensures.reads tells sound in not_foreign_there file has.0 has.1 (e.foreign tells five))
    (λ other. other.1 (e.foreign tells five)) good)
    e.not_read (λ four. none.2 (e.write_fault four)) e.statuses)

pub returns-in-Run-clause-sound : goal.returns-in-Run-clause-sound
returns-in-Run-clause-sound g c tells sound =
    let d = g.D.Disk in
    let k = g.C.Clock in
    let w = g.W.Replies in (
      c.run.ensures.sound tells sound,
      starts_sound d k w tells c.args.input.now c.run.new.input
          (λ first. AnswersStream d k w (stream_ends (g.S.Source.left c.args.input.now) (g.S.Source.left c.run.new.input)))
          (λ first old new status sound a. calls_sound d k w tells journal_limit (under old) (under new) (calls_of a.talk.spoken.exchanges) sound a.answers)
          (around c.args.disk c.args.clock c.args.out.now) (around c.run.result.disk c.run.result.clock c.run.new.out) c.run.result.status sound
          (c.sound_now.ensures.still tells sound) c.run.ensures.runs,
    )

pub returns-in-Run-clause-complete : goal.returns-in-Run-clause-complete
returns-in-Run-clause-complete g c tells good none eight =
    let e = c.run.ensures in
    inl (run_done c.run.result.status (λ two. none.0 (e.disk_fault two))
    (λ five. ⊎_elim
    (λ sound. e.sound tells sound five)
    (λ other. init_not_run _ (ap Some other.0) (ap (λ (l : CommandLine). Some (line_of l)) c.in-Run.is)) good)
    (λ three. none.1 (e.read_fault three)) (λ four. none.2 (e.write_fault four)) (⊎_elim (λ is. absurd (eight is)) (λ is. is) e.statuses))

pub returns-in-Report-clause-sound : goal.returns-in-Report-clause-sound
returns-in-Report-clause-sound g c tells sound =
    let d = g.D.Disk in
    let k = g.C.Clock in
    let w = g.W.Replies in
    let month = c.in-Report.asked.month in
    let as_text = c.in-Report.asked.as_text in (
      c.report.ensures.sound tells sound,
      starts_sound d k w tells month month (TellsMonth d w month as_text) (reported_sound d k w tells month as_text)
          (around c.args.disk c.args.clock c.args.out.now)
          (around c.report.result.disk c.report.result.clock c.report.new.out) c.report.result.status sound
          (c.sound_now.ensures.still tells sound) c.report.ensures.reports,
    )

pub returns-in-Report-clause-complete : goal.returns-in-Report-clause-complete
returns-in-Report-clause-complete g c tells good none eight =
    let e = c.report.ensures in
    inl (report_done c.report.result.status (λ two. none.0 (e.disk_fault two))
    (λ five. ⊎_elim
    (λ sound. e.sound tells sound five)
    (λ other. init_not_report _ _ _ (ap Some other.0) (ap (λ (l : CommandLine). Some (line_of l)) c.in-Report.is)) good)
    e.only.0 (λ four. none.2 (e.write_fault four)) (⊎_elim (λ is. absurd (eight is)) (λ is. is) e.statuses))

pub returns-in-Explain-clause-sound : goal.returns-in-Explain-clause-sound
returns-in-Explain-clause-sound g c tells sound =
    let has = c.sound_now.ensures.reads tells sound in (
      c.stays.ensures.sound tells has.0 has.1,
      explained_sound g.D.Disk g.C.Clock g.W.Replies tells
          (around c.args.disk c.args.clock c.args.out.now) (around c.stays.result.disk c.stays.result.clock c.stays.new.out) c.stays.result.status sound c.stays.ensures.explains,
    )

pub returns-in-Gen-clause-sound : goal.returns-in-Gen-clause-sound
returns-in-Gen-clause-sound g c tells sound =
    (said_none _ 5 refl c.load-status.ensures.statuses, c.sound_now.ensures.still tells sound)

pub returns-in-Explain-clause-complete : goal.returns-in-Explain-clause-complete
returns-in-Explain-clause-complete g c tells good none eight =
    let e = c.stays.ensures in
    inl (run_done c.stays.result.status (λ two. none.0 (e.disk_fault two))
    (λ five. ⊎_elim
    (λ sound. let has = c.sound_now.ensures.reads tells sound in e.sound tells has.0 has.1 five)
    (λ other. init_not_explain _ _ (ap Some other.0) (ap (λ (l : CommandLine). Some (line_of l)) c.in-Explain.is)) good)
    e.only.0 (λ four. none.2 (e.write_fault four)) e.statuses)

pub stays-requires-clause-few : goal.stays-requires-clause-few
stays-requires-clause-few g c κs within = subst (λ (l : CommandLine). NeedsNoPort (line_of l)) c.in-Explain.is c.requires.no_port

pub returns-in-Gen-clause-complete : goal.returns-in-Gen-clause-complete
returns-in-Gen-clause-complete g c tells good none eight =
    let e = c.load-status.ensures in
    inl (⊎_elim (λ is. inl is) (⊎_elim (λ four. absurd (none.2 (e.write_fault four))) (λ six. inr (inl six))) e.statuses)

-- ---- what is touched

pub returns-in-Init-clause-only : goal.returns-in-Init-clause-only
returns-in-Init-clause-only g c =
    let e = c.init-status.ensures in
    let line = ap (λ (l : CommandLine). Some (line_of l)) c.in-Init.is in
    prints g.W.Replies _ _ _ _ _ _ _ (not_run _ _ line (λ is. absurd cc)) (not_serve _ _ line (λ _ _ _ is. absurd cc)) e.unsaid e.unnoted refl tt refl

pub returns-in-Report-clause-only : goal.returns-in-Report-clause-only
returns-in-Report-clause-only g c =
    let e = c.report.ensures in
    let line = ap (λ (l : CommandLine). Some (line_of l)) c.in-Report.is in
    prints g.W.Replies _ _ _ _ _ _ _ (not_run _ _ line (λ is. absurd cc)) (not_serve _ _ line (λ _ _ _ is. absurd cc)) e.unsaid e.unnoted refl tt refl

pub returns-in-Explain-clause-only : goal.returns-in-Explain-clause-only
returns-in-Explain-clause-only g c =
    let e = c.stays.ensures in
    let line = ap (λ (l : CommandLine). Some (line_of l)) c.in-Explain.is in
    prints g.W.Replies _ _ _ _ _ _ _ (not_run _ _ line (λ is. absurd cc)) (not_serve _ _ line (λ _ _ _ is. absurd cc)) e.unsaid e.unnoted refl tt refl

pub returns-in-Gen-clause-only : goal.returns-in-Gen-clause-only
returns-in-Gen-clause-only g c =
    let e = c.load-status.ensures in
    let line = ap (λ (l : CommandLine). Some (line_of l)) c.in-Gen.is in
    prints g.W.Replies _ _ _ _ _ _ _ (not_run _ _ line (λ is. absurd cc)) (not_serve _ _ line (λ _ _ _ is. absurd cc)) e.unsaid e.unnoted refl tt refl

-- ---- causes

pub returns-in-Init-clause-causes : goal.returns-in-Init-clause-causes
returns-in-Init-clause-causes g c =
    let e = c.init-status.ensures in
    let line = ap (λ (l : CommandLine). Some (line_of l)) c.in-Init.is in
    record {
      known = inr (inr (inl (inr e.statuses)));
      usage = λ one. absurd (run_none _ 1 refl e.statuses one);
      disk_fault = e.disk_fault;
      read_fault = λ three. absurd (e.not_read three);
      read_done = λ _. refl;
      write_fault = e.write_fault;
      foreign_file = λ _ five tells. e.foreign tells five;
      port_fault = λ seven. absurd (run_none _ 7 refl e.statuses seven);
      port_done = λ _. omega arith;
      clock_end = λ eight _. run_none _ 8 refl e.statuses eight;
      input_spent = λ nine. absurd (e.not_spent nine);
      no_tariff = λ ten. absurd (run_none _ 10 refl e.statuses ten);
      keeper_fault = λ eleven. absurd (run_none _ 11 refl e.statuses eleven);
      keeper_done = λ _. refl;
      bill_only = no_billing (run_none _ 11 refl e.statuses) (run_none _ 12 refl e.statuses) (run_none _ 13 refl e.statuses);
      input_only = λ three. absurd (e.not_read three);
      forecast_only = λ fourteen. absurd (run_none _ 14 refl e.statuses fourteen);
    }

pub returns-in-Run-clause-causes : goal.returns-in-Run-clause-causes
returns-in-Run-clause-causes g c =
    let e = c.run.ensures in
    let line = ap (λ (l : CommandLine). Some (line_of l)) c.in-Run.is in
    record {
      known = ⊎_elim (λ eight. inr (inl eight)) (λ is. inr (inr (inl (inr is)))) e.statuses;
      usage = λ one. absurd (late_none _ 1 refl (run_none _ 1 refl) e.statuses one);
      disk_fault = e.disk_fault;
      read_fault = e.read_fault;
      read_done = e.read_done;
      write_fault = e.write_fault;
      foreign_file = λ is. absurd (not_init _ _ line (λ other. absurd cc) is);
      port_fault = λ seven. absurd (late_none _ 7 refl (run_none _ 7 refl) e.statuses seven);
      port_done = λ _. omega arith;
      clock_end = λ _. not_init _ _ line (λ other. absurd cc);
      input_spent = e.spent;
      no_tariff = λ ten. absurd (late_none _ 10 refl (run_none _ 10 refl) e.statuses ten);
      keeper_fault = λ eleven. absurd (late_none _ 11 refl (run_none _ 11 refl) e.statuses eleven);
      keeper_done = λ _. refl;
      bill_only = no_billing (late_none _ 11 refl (run_none _ 11 refl) e.statuses) (late_none _ 12 refl (run_none _ 12 refl) e.statuses) (late_none _ 13 refl (run_none _ 13 refl) e.statuses);
      input_only = λ _. inl line;
      forecast_only = λ fourteen. absurd (late_none _ 14 refl (run_none _ 14 refl) e.statuses fourteen);
    }

pub returns-in-Report-clause-causes : goal.returns-in-Report-clause-causes
returns-in-Report-clause-causes g c =
    let e = c.report.ensures in
    let line = ap (λ (l : CommandLine). Some (line_of l)) c.in-Report.is in
    record {
      known = ⊎_elim (λ eight. inr (inl eight)) (λ is. inr (inr (inl is))) e.statuses;
      usage = λ one. absurd (late_none _ 1 refl (report_none _ 1 refl refl) e.statuses one);
      disk_fault = e.disk_fault;
      read_fault = λ three. absurd (e.only.0 three);
      read_done = λ _. refl;
      write_fault = e.write_fault;
      foreign_file = λ is. absurd (not_init _ _ line (λ other. absurd cc) is);
      port_fault = λ seven. absurd (e.only.1.0 seven);
      port_done = λ _. omega arith;
      clock_end = λ _. not_init _ _ line (λ other. absurd cc);
      input_spent = λ nine. absurd (e.only.1.1 nine);
      no_tariff = λ _. (c.in-Report.asked.month, c.in-Report.asked.as_text, line);
      keeper_fault = λ eleven. absurd (late_none _ 11 refl (report_none _ 11 refl refl) e.statuses eleven);
      keeper_done = λ _. refl;
      bill_only = no_billing (late_none _ 11 refl (report_none _ 11 refl refl) e.statuses) (late_none _ 12 refl (report_none _ 12 refl refl) e.statuses) (late_none _ 13 refl (report_none _ 13 refl refl) e.statuses);
      input_only = λ three. absurd (e.only.0 three);
      forecast_only = λ fourteen. absurd (late_none _ 14 refl (report_none _ 14 refl refl) e.statuses fourteen);
    }

pub returns-in-Explain-clause-causes : goal.returns-in-Explain-clause-causes
returns-in-Explain-clause-causes g c =
    let e = c.stays.ensures in
    let line = ap (λ (l : CommandLine). Some (line_of l)) c.in-Explain.is in
    record {
      known = inr (inr (inl (inr e.statuses)));
      usage = λ one. absurd (run_none _ 1 refl e.statuses one);
      disk_fault = e.disk_fault;
      read_fault = λ three. absurd (e.only.0 three);
      read_done = λ _. refl;
      write_fault = e.write_fault;
      foreign_file = λ is. absurd (not_init _ _ line (λ other. absurd cc) is);
      port_fault = λ seven. absurd (e.only.1.0 seven);
      port_done = λ _. omega arith;
      clock_end = λ eight _. run_none _ 8 refl e.statuses eight;
      input_spent = λ nine. absurd (e.only.1.1 nine);
      no_tariff = λ ten. absurd (run_none _ 10 refl e.statuses ten);
      keeper_fault = λ eleven. absurd (run_none _ 11 refl e.statuses eleven);
      keeper_done = λ _. refl;
      bill_only = no_billing (run_none _ 11 refl e.statuses) (run_none _ 12 refl e.statuses) (run_none _ 13 refl e.statuses);
      input_only = λ three. absurd (e.only.0 three);
      forecast_only = λ fourteen. absurd (run_none _ 14 refl e.statuses fourteen);
    }

pub returns-in-Gen-clause-causes : goal.returns-in-Gen-clause-causes
returns-in-Gen-clause-causes g c =
    let e = c.load-status.ensures in
    let line = ap (λ (l : CommandLine). Some (line_of l)) c.in-Gen.is in
    record {
      known = inr (inr (inl (inr (said_is_run _ e.statuses))));
      usage = λ one. absurd (said_none _ 1 refl e.statuses one);
      disk_fault = λ two. absurd (said_none _ 2 refl e.statuses two);
      read_fault = λ three. absurd (said_none _ 3 refl e.statuses three);
      read_done = λ _. refl;
      write_fault = e.write_fault;
      foreign_file = λ is. absurd (not_init _ _ line (λ other. absurd cc) is);
      port_fault = λ seven. absurd (said_none _ 7 refl e.statuses seven);
      port_done = λ _. omega arith;
      clock_end = λ eight _. said_none _ 8 refl e.statuses eight;
      input_spent = λ nine. absurd (said_none _ 9 refl e.statuses nine);
      no_tariff = λ ten. absurd (said_none _ 10 refl e.statuses ten);
      keeper_fault = λ eleven. absurd (said_none _ 11 refl e.statuses eleven);
      keeper_done = λ _. refl;
      bill_only = no_billing (said_none _ 11 refl e.statuses) (said_none _ 12 refl e.statuses) (said_none _ 13 refl e.statuses);
      input_only = λ three. absurd (said_none _ 3 refl e.statuses three);
      forecast_only = λ fourteen. absurd (said_none _ 14 refl e.statuses fourteen);
    }

pub returns-in-Bill-clause-sound : goal.returns-in-Bill-clause-sound
returns-in-Bill-clause-sound g c tells sound =
    let d = g.D.Disk in
    let k = g.C.Clock in
    let w = g.W.Replies in
    let b = g.K.BillKeeper in
    let one = billing c.in-Bill.asked.month c.args.keeper.now c.bill.new.keeper in (
      c.bill.ensures.sound tells sound,
      starts_sound d k w tells one.old one.new (BillsMonth d w b one) (billed_sound d k w tells b one)
          (around c.args.disk c.args.clock c.args.out.now)
          (around c.bill.result.disk c.bill.result.clock c.bill.new.out) c.bill.result.status sound
          (c.sound_now.ensures.still tells sound) c.bill.ensures.bills,
    )

pub returns-in-Bill-clause-complete : goal.returns-in-Bill-clause-complete
returns-in-Bill-clause-complete g c tells good none eight =
    let e = c.bill.ensures in
    let line = ap (λ (l : CommandLine). Some (line_of l)) c.in-Bill.is in
    ⊎_elim (λ done. inl done) (λ other. inr (inl ((c.in-Bill.asked.month, line), other)))
    (bill_done c.bill.result.status (λ two. none.0 (e.disk_fault two))
    (λ five. ⊎_elim
    (λ sound. e.sound tells sound five)
    (λ other. init_not_bill _ _ (ap Some other.0) line) good)
    e.only.0 (λ four. none.2 (e.write_fault four)) (⊎_elim (λ is. absurd (eight is)) (λ is. is) e.statuses))

pub returns-in-Bill-clause-only : goal.returns-in-Bill-clause-only
returns-in-Bill-clause-only g c =
    let e = c.bill.ensures in
    let line = ap (λ (l : CommandLine). Some (line_of l)) c.in-Bill.is in
    bills g.W.Replies _ _ _ _ _ _ _ (not_run _ _ line (λ is. absurd cc)) (not_serve _ _ line (λ _ _ _ is. absurd cc)) (c.in-Bill.asked.month, line)
    e.unsaid e.unnoted refl tt e.unopened

pub returns-in-Bill-clause-causes : goal.returns-in-Bill-clause-causes
returns-in-Bill-clause-causes g c =
    let e = c.bill.ensures in
    let line = ap (λ (l : CommandLine). Some (line_of l)) c.in-Bill.is in
    record {
      known = ⊎_elim (λ eight. inr (inl eight)) (λ is. inr (inr (inr (inr (inl is))))) e.statuses;
      usage = λ one. absurd (late_none _ 1 refl (bill_none _ 1 refl refl) e.statuses one);
      disk_fault = e.disk_fault;
      read_fault = λ three. absurd (e.only.0 three);
      read_done = λ _. refl;
      write_fault = e.write_fault;
      foreign_file = λ is. absurd (not_init _ _ line (λ other. absurd cc) is);
      port_fault = λ seven. absurd (e.only.1.0 seven);
      port_done = λ _. omega arith;
      clock_end = λ _. not_init _ _ line (λ other. absurd cc);
      input_spent = λ nine. absurd (e.only.1.1 nine);
      no_tariff = λ ten. absurd (late_none _ 10 refl (bill_none _ 10 refl refl) e.statuses ten);
      keeper_fault = e.keeper_fault;
      keeper_done = e.keeper_done;
      bill_only = λ _. (c.in-Bill.asked.month, line);
      input_only = λ three. absurd (e.only.0 three);
      forecast_only = λ fourteen. absurd (late_none _ 14 refl (bill_none _ 14 refl refl) e.statuses fourteen);
    }

pub returns-in-Bill-clause-billable : goal.returns-in-Bill-clause-billable
returns-in-Bill-clause-billable g c month history is tells sound has can none eight =
    let e = c.bill.ensures in
    let line = ap (λ (l : CommandLine). Some (line_of l)) c.in-Bill.is in
    let same : month ≡ c.in-Bill.asked.month = same_bill _ month c.in-Bill.asked.month (ap Some is) line in
    let one = billing c.in-Bill.asked.month c.args.keeper.now c.bill.new.keeper in
    let mine = subst (λ (m : ℕ). CanBill g.K.BillKeeper history (billing m c.args.keeper.now c.bill.new.keeper)) same can in
    billable c.bill.result.status (λ two. none.0 (e.disk_fault two)) (e.sound tells sound)
    g.D.Disk g.C.Clock g.W.Replies g.K.BillKeeper one tells history mine
    (λ four. none.1 (e.write_fault four)) (λ eleven. none.2 (e.keeper_fault eleven)) eight
    (around c.args.disk c.args.clock c.args.out.now) (around c.bill.result.disk c.bill.result.clock c.bill.new.out) sound has e.bills

pub returns-in-Run-clause-only : goal.returns-in-Run-clause-only
returns-in-Run-clause-only g c =
    let e = c.run.ensures in
    let line = ap (λ (l : CommandLine). Some (line_of l)) c.in-Run.is in
    runs g.W.Replies _ _ _ _ _ _ _ line (not_serve _ _ line (λ _ _ _ is. absurd cc)) e.no_text e.unnoted e.unopened tt refl

pub returns-in-Forecast-clause-sound : goal.returns-in-Forecast-clause-sound
returns-in-Forecast-clause-sound g c tells sound =
    let d = g.D.Disk in
    let k = g.C.Clock in
    let w = g.W.Replies in
    let asked = asking c.in-Forecast.asked.bucket c.in-Forecast.asked.day in
    let input = stream_ends (g.S.Source.left c.args.input.now) (g.S.Source.left c.foretell.new.input) in (
      c.foretell.ensures.sound tells sound,
      starts_sound d k w tells c.args.input.now c.foretell.new.input (ForecastsBucket d w asked input) (foretold_sound d k w tells asked input)
          (around c.args.disk c.args.clock c.args.out.now)
          (around c.foretell.result.disk c.foretell.result.clock c.foretell.new.out) c.foretell.result.status sound
          (c.sound_now.ensures.still tells sound) c.foretell.ensures.forecasts,
    )

pub returns-in-Forecast-clause-complete : goal.returns-in-Forecast-clause-complete
returns-in-Forecast-clause-complete g c tells good none eight =
    let e = c.foretell.ensures in
    let line = ap (λ (l : CommandLine). Some (line_of l)) c.in-Forecast.is in
    ⊎_elim (λ done. inl done) (λ fourteen. inr (inr ((c.in-Forecast.asked.bucket, c.in-Forecast.asked.day, line), fourteen)))
    (forecast_done c.foretell.result.status (λ two. none.0 (e.disk_fault two))
    (λ five. ⊎_elim
    (λ sound. e.sound tells sound five)
    (λ other. init_not_forecast _ _ _ (ap Some other.0) line) good)
    (λ three. none.1 (e.read_fault three)) (λ four. none.2 (e.write_fault four)) (⊎_elim (λ is. absurd (eight is)) (λ is. is) e.statuses))

pub returns-in-Forecast-clause-only : goal.returns-in-Forecast-clause-only
returns-in-Forecast-clause-only g c =
    let e = c.foretell.ensures in
    let line = ap (λ (l : CommandLine). Some (line_of l)) c.in-Forecast.is in
    foretells g.W.Replies _ _ _ _ _ _ _ (not_run _ _ line (λ is. absurd cc)) (not_serve _ _ line (λ _ _ _ is. absurd cc))
    (c.in-Forecast.asked.bucket, c.in-Forecast.asked.day, line) e.unsaid e.unnoted e.unopened tt refl

pub returns-in-Forecast-clause-causes : goal.returns-in-Forecast-clause-causes
returns-in-Forecast-clause-causes g c =
    let e = c.foretell.ensures in
    let line = ap (λ (l : CommandLine). Some (line_of l)) c.in-Forecast.is in
    record {
      known = ⊎_elim (λ eight. inr (inl eight)) (λ is. inr (inr (inr (inr (inr is))))) e.statuses;
      usage = λ one. absurd (late_none _ 1 refl (forecast_none _ 1 refl refl) e.statuses one);
      disk_fault = e.disk_fault;
      read_fault = e.read_fault;
      read_done = e.read_done;
      write_fault = e.write_fault;
      foreign_file = λ is. absurd (not_init _ _ line (λ other. absurd cc) is);
      port_fault = λ seven. absurd (e.only.0 seven);
      port_done = λ _. omega arith;
      clock_end = λ _. not_init _ _ line (λ other. absurd cc);
      input_spent = λ nine. absurd (e.only.1 nine);
      no_tariff = λ ten. absurd (late_none _ 10 refl (forecast_none _ 10 refl refl) e.statuses ten);
      keeper_fault = λ eleven. absurd (late_none _ 11 refl (forecast_none _ 11 refl refl) e.statuses eleven);
      keeper_done = λ _. refl;
      bill_only = no_billing (late_none _ 11 refl (forecast_none _ 11 refl refl) e.statuses) (late_none _ 12 refl (forecast_none _ 12 refl refl) e.statuses)
          (late_none _ 13 refl (forecast_none _ 13 refl refl) e.statuses);
      input_only = λ _. inr (c.in-Forecast.asked.bucket, c.in-Forecast.asked.day, line);
      forecast_only = λ _. (c.in-Forecast.asked.bucket, c.in-Forecast.asked.day, line);
    }

pub returns-in-Forecast-clause-forecastable : goal.returns-in-Forecast-clause-forecastable
returns-in-Forecast-clause-forecastable g c bucket day history bytes is tells sound has left can none eight =
    let e = c.foretell.ensures in
    let line = ap (λ (l : CommandLine). Some (line_of l)) c.in-Forecast.is in
    let asked = asking c.in-Forecast.asked.bucket c.in-Forecast.asked.day in
    let input = stream_ends (g.S.Source.left c.args.input.now) (g.S.Source.left c.foretell.new.input) in
    let mine = subst (λ (a : List ℕ × ℕ). CanForecast history (asking a.0 a.1) bytes (g.C.Clock.last c.foretell.result.clock))
    (same_forecast _ bucket c.in-Forecast.asked.bucket day c.in-Forecast.asked.day (ap Some is) line) can in
    forecastable c.foretell.result.status (λ two. none.0 (e.disk_fault two)) (e.sound tells sound)
    g.D.Disk g.C.Clock g.W.Replies tells (λ three. none.1 (e.read_fault three)) (λ four. none.2 (e.write_fault four)) eight
    history asked bytes input left
    (around c.args.disk c.args.clock c.args.out.now) (around c.foretell.result.disk c.foretell.result.clock c.foretell.new.out) mine sound has e.forecasts
