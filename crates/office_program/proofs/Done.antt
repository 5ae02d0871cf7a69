-- A command that met no fault is done.
use Rattle.std.proofs.Common.{◌≡◌, ◌⊎◌, ◌∙◌, refl, sym, ap, subst, inl, inr, arith, ℕ, List, [], ◌∷◌, Option, Some, None, Bool, true, false}
use Rattle.std.specs.Prelude.{◌||◌, nat_eq, IsTrue}
use Rattle.command_line.specs.Lines.{Line, init, run, serve, report, explain, bill, forecast}
use Rattle.command_line.specs.declared.line.LineFault.{LineFault}
use Rattle.command_line.specs.declared.line.LineFault.TheVariants as refusals
use Rattle.meter_journal.specs.declared.fault.OpenFault.{OpenFault}
use Rattle.meter_journal.specs.declared.fault.OpenFault.TheVariants as faults
use Rattle.http_front.specs.declared.answering.SessionEnd.{SessionEnd}
use Rattle.http_front.specs.declared.answering.SessionEnd.TheVariants as ends
use Rattle.serving.specs.declared.worker.WorkerEnd.{WorkerEnd}
use Rattle.serving.specs.declared.worker.WorkerEnd.TheVariants as workers
use Rattle.office_commands.specs.Lines.{session_exit, fault_exit, IsRunExit, IsReportExit, IsBillExit, IsForecastExit, IsDoneExit}
use Rattle.office_program.specs.Workers.{workers_exit, IsServeExit}

module _ (status : ℕ) (store : status ≡ 2 → ⊥) (journal : status ≡ 5 → ⊥) where
  fault_done : (fault : OpenFault) → status ≡ fault_exit fault → IsDoneExit status
  fault_done faults.StoreFault is = absurd (store is)
  fault_done faults.NotMade is = absurd (journal is)
  fault_done faults.Foreign is = absurd (journal is)
  fault_done (faults.Damaged at) is = absurd (journal is)
  fault_done faults.NoMemory is = inr (inl is)

  module _ (input : status ≡ 3 → ⊥) (output : status ≡ 4 → ⊥) where
    end_done : (end : SessionEnd) (stale : Bool) → status ≡ session_exit end stale → IsDoneExit status
    end_done ends.WriteFault stale is = absurd (output is)
    end_done ends.ReadFault stale is = absurd (input is)
    end_done ends.Spent stale is = inr (inr (inl is))
    end_done ends.NoMemory true is = absurd (store is)
    end_done ends.NoMemory false is = inr (inl is)
    end_done ends.Ended true is = absurd (store is)
    end_done ends.Ended false is = inl is

    pub run_done : IsRunExit status → IsDoneExit status
    run_done (inl end) = end_done end.0 end.1 end.2
    run_done (inr fault) = fault_done fault.0 fault.1

    pub bill_done : IsBillExit status → IsDoneExit status ⊎ ((status ≡ 11) ⊎ ((status ≡ 12) ⊎ (status ≡ 13)))
    bill_done (inl eleven) = inr (inl eleven)
    bill_done (inr (inl twelve)) = inr (inr (inl twelve))
    bill_done (inr (inr (inl thirteen))) = inr (inr (inr thirteen))
    bill_done (inr (inr (inr other))) = inl (run_done other)

    pub forecast_done : IsForecastExit status → IsDoneExit status ⊎ (status ≡ 14)
    forecast_done (inl fourteen) = inr fourteen
    forecast_done (inr other) = inl (run_done other)

    pub report_done : IsReportExit status → IsDoneExit status
    report_done (inl ten) = inr (inr (inr ten))
    report_done (inr other) = run_done other

  module _ (port : status ≡ 7 → ⊥) where
    workers_done : (end : WorkerEnd) (stale : Bool) → status ≡ workers_exit end stale → IsDoneExit status
    workers_done workers.PortFault stale is = absurd (port is)
    workers_done workers.NoMemory true is = absurd (store is)
    workers_done workers.NoMemory false is = inr (inl is)
    workers_done workers.Done true is = absurd (store is)
    workers_done workers.Done false is = inl is

    pub serve_done : IsServeExit status → IsDoneExit status
    serve_done (inl end) = workers_done end.0 end.1 end.2
    serve_done (inr fault) = fault_done fault.0 fault.1

-- ---- which numbers are the statuses of each command

absurd_true : true ≡ false → ⊥
absurd_true is = absurd cc

abbrev is_one_of : List ℕ → ℕ → Bool
is_one_of [] n = false
is_one_of (first ∷ rest) n = nat_eq first n || is_one_of rest n

abbrev pub is_run_exit : ℕ → Bool
is_run_exit = is_one_of (0 ∷ 2 ∷ 3 ∷ 4 ∷ 5 ∷ 6 ∷ 9 ∷ [])

abbrev pub is_serve_exit : ℕ → Bool
is_serve_exit = is_one_of (0 ∷ 2 ∷ 5 ∷ 6 ∷ 7 ∷ [])

abbrev pub is_said_exit : ℕ → Bool
is_said_exit = is_one_of (0 ∷ 4 ∷ 6 ∷ [])

module _ (p : ℕ → Bool) (status : ℕ) where
  there : (n : ℕ) → IsTrue (p n) → status ≡ n → IsTrue (p status)
  there n holds is = subst (λ (x : ℕ). IsTrue (p x)) (sym is) holds

  -- a number that is none of them is not the status
  pub not_one : (n : ℕ) → p n ≡ false → IsTrue (p status) → status ≡ n → ⊥
  not_one n differs held is = absurd_true (sym (subst (λ (x : ℕ). IsTrue (p x)) is held) ∙ differs)

fault_is_run : (fault : OpenFault) (status : ℕ) → status ≡ fault_exit fault → IsTrue (is_run_exit status)
fault_is_run faults.StoreFault status is = there is_run_exit status 2 refl is
fault_is_run faults.NotMade status is = there is_run_exit status 5 refl is
fault_is_run faults.Foreign status is = there is_run_exit status 5 refl is
fault_is_run (faults.Damaged at) status is = there is_run_exit status 5 refl is
fault_is_run faults.NoMemory status is = there is_run_exit status 6 refl is

fault_is_serve : (fault : OpenFault) (status : ℕ) → status ≡ fault_exit fault → IsTrue (is_serve_exit status)
fault_is_serve faults.StoreFault status is = there is_serve_exit status 2 refl is
fault_is_serve faults.NotMade status is = there is_serve_exit status 5 refl is
fault_is_serve faults.Foreign status is = there is_serve_exit status 5 refl is
fault_is_serve (faults.Damaged at) status is = there is_serve_exit status 5 refl is
fault_is_serve faults.NoMemory status is = there is_serve_exit status 6 refl is

end_is_run : (end : SessionEnd) (stale : Bool) (status : ℕ) → status ≡ session_exit end stale → IsTrue (is_run_exit status)
end_is_run ends.WriteFault stale status is = there is_run_exit status 4 refl is
end_is_run ends.ReadFault stale status is = there is_run_exit status 3 refl is
end_is_run ends.Spent stale status is = there is_run_exit status 9 refl is
end_is_run ends.NoMemory true status is = there is_run_exit status 2 refl is
end_is_run ends.NoMemory false status is = there is_run_exit status 6 refl is
end_is_run ends.Ended true status is = there is_run_exit status 2 refl is
end_is_run ends.Ended false status is = there is_run_exit status 0 refl is

workers_are_serve : (end : WorkerEnd) (stale : Bool) (status : ℕ) → status ≡ workers_exit end stale
    → IsTrue (is_serve_exit status)
workers_are_serve workers.PortFault stale status is = there is_serve_exit status 7 refl is
workers_are_serve workers.NoMemory true status is = there is_serve_exit status 2 refl is
workers_are_serve workers.NoMemory false status is = there is_serve_exit status 6 refl is
workers_are_serve workers.Done true status is = there is_serve_exit status 2 refl is
workers_are_serve workers.Done false status is = there is_serve_exit status 0 refl is

pub run_is : (status : ℕ) → IsRunExit status → IsTrue (is_run_exit status)
run_is status (inl end) = end_is_run end.0 end.1 status end.2
run_is status (inr fault) = fault_is_run fault.0 status fault.1

pub serve_is : (status : ℕ) → IsServeExit status → IsTrue (is_serve_exit status)
serve_is status (inl end) = workers_are_serve end.0 end.1 status end.2
serve_is status (inr fault) = fault_is_serve fault.0 status fault.1

pub run_none : (status n : ℕ) → is_run_exit n ≡ false → IsRunExit status → status ≡ n → ⊥
run_none status n differs is = not_one is_run_exit status n differs (run_is status is)

pub serve_none : (status n : ℕ) → is_serve_exit n ≡ false → IsServeExit status → status ≡ n → ⊥
serve_none status n differs is = not_one is_serve_exit status n differs (serve_is status is)

-- where a text was said, or not
said_is : (status : ℕ) → (status ≡ 0) ⊎ ((status ≡ 4) ⊎ (status ≡ 6)) → IsTrue (is_said_exit status)
said_is status (inl is) = there is_said_exit status 0 refl is
said_is status (inr (inl is)) = there is_said_exit status 4 refl is
said_is status (inr (inr is)) = there is_said_exit status 6 refl is

pub said_none : (status n : ℕ) → is_said_exit n ≡ false → (status ≡ 0) ⊎ ((status ≡ 4) ⊎ (status ≡ 6)) → status ≡ n → ⊥
said_none status n differs is = not_one is_said_exit status n differs (said_is status is)

-- of words that are refused
refusal_is : (fault : LineFault) (status : ℕ) → (fault ≡ refusals.NotALine → status ≡ 1) → (fault ≡ refusals.NoMemory → status ≡ 6)
    → (status ≡ 1) ⊎ (status ≡ 6)
refusal_is refusals.NotALine status one six = inl (one refl)
refusal_is refusals.NoMemory status one six = inr (six refl)

module _ (fault : LineFault) (status : ℕ) (one : fault ≡ refusals.NotALine → status ≡ 1) (six : fault ≡ refusals.NoMemory → status ≡ 6) where
  abbrev pub is_refusal_exit : ℕ → Bool
  is_refusal_exit = is_one_of (1 ∷ 6 ∷ [])

  refusal_held : (status ≡ 1) ⊎ (status ≡ 6) → IsTrue (is_refusal_exit status)
  refusal_held (inl is) = there is_refusal_exit status 1 refl is
  refusal_held (inr is) = there is_refusal_exit status 6 refl is

  pub refusal_none : (n : ℕ) → is_refusal_exit n ≡ false → status ≡ n → ⊥
  refusal_none n differs is = not_one is_refusal_exit status n differs (refusal_held (refusal_is fault status one six)) is

  named : (status ≡ 1) ⊎ (status ≡ 6) → (status ≡ 1) ⊎ ((status ≡ 8) ⊎ (IsReportExit status ⊎ (IsServeExit status ⊎ (IsBillExit status ⊎ IsForecastExit status))))
  named (inl is) = inl is
  named (inr is) = inr (inr (inr (inl (inr (faults.NoMemory, is)))))

  pub refusal_known : (status ≡ 1) ⊎ ((status ≡ 8) ⊎ (IsReportExit status ⊎ (IsServeExit status ⊎ (IsBillExit status ⊎ IsForecastExit status))))
  refusal_known = named (refusal_is fault status one six)

six_not_one : (status : ℕ) → status ≡ 6 → status ≡ 1 → ⊥
six_not_one status six one = omega (arith, six, one)

-- the status of words that are no command line is that of these alone
pub refusal_line : (fault : LineFault) (line : Option Line) (status : ℕ) → (fault ≡ refusals.NotALine → line ≡ None) → (fault ≡ refusals.NoMemory → status ≡ 6)
    → status ≡ 1 → line ≡ None
refusal_line refusals.NotALine line status none six one = none refl
refusal_line refusals.NoMemory line status none six one = absurd (six_not_one status (six refl) one)

-- or the clock is at its end
pub late_none : {P : Type 0} (status n : ℕ) → nat_eq 8 n ≡ false → (P → status ≡ n → ⊥) → (status ≡ 8) ⊎ P → status ≡ n → ⊥
late_none status n other none (inl eight) is = absurd_true (sym (subst (λ (x : ℕ). nat_eq 8 x ≡ true) (sym eight ∙ is) refl) ∙ other)
late_none status n other none (inr holds) is = none holds is

-- of a report
pub report_none : (status n : ℕ) → is_run_exit n ≡ false → nat_eq 10 n ≡ false → IsReportExit status → status ≡ n → ⊥
report_none status n differs other (inl ten) is = absurd_true (sym (subst (λ (x : ℕ). nat_eq 10 x ≡ true) (sym ten ∙ is) refl) ∙ other)
report_none status n differs other (inr holds) is = run_none status n differs holds is

-- of a forecast
pub forecast_none : (status n : ℕ) → is_run_exit n ≡ false → nat_eq 14 n ≡ false → IsForecastExit status → status ≡ n → ⊥
forecast_none status n differs other (inl fourteen) is = absurd_true (sym (subst (λ (x : ℕ). nat_eq 14 x ≡ true) (sym fourteen ∙ is) refl) ∙ other)
forecast_none status n differs other (inr holds) is = run_none status n differs holds is

-- of a billing
pub bill_none : (status n : ℕ) → is_run_exit n ≡ false → is_one_of (11 ∷ 12 ∷ 13 ∷ []) n ≡ false → IsBillExit status → status ≡ n → ⊥
bill_none status n differs other (inl eleven) is = not_one (is_one_of (11 ∷ 12 ∷ 13 ∷ [])) status n other (there (is_one_of (11 ∷ 12 ∷ 13 ∷ [])) status 11 refl eleven) is
bill_none status n differs other (inr (inl twelve)) is = not_one (is_one_of (11 ∷ 12 ∷ 13 ∷ [])) status n other (there (is_one_of (11 ∷ 12 ∷ 13 ∷ [])) status 12 refl twelve) is
bill_none status n differs other (inr (inr (inl thirteen))) is = not_one (is_one_of (11 ∷ 12 ∷ 13 ∷ [])) status n other (there (is_one_of (11 ∷ 12 ∷ 13 ∷ [])) status 13 refl thirteen) is
bill_none status n differs other (inr (inr (inr holds))) is = run_none status n differs holds is

-- no status of a billing alone
pub no_billing : {P : Type 0} {status : ℕ} → (status ≡ 11 → ⊥) → (status ≡ 12 → ⊥) → (status ≡ 13 → ⊥) → (status ≡ 11) ⊎ ((status ≡ 12) ⊎ (status ≡ 13)) → P
no_billing one two three (inl is) = absurd (one is)
no_billing one two three (inr (inl is)) = absurd (two is)
no_billing one two three (inr (inr is)) = absurd (three is)

-- ---- words ask for one thing

init_is_not_run : Some init ≡ Some run → ⊥
init_is_not_run is = absurd cc

init_is_not_serve : (listen : List ℕ) (count connections : ℕ) → Some init ≡ Some (serve listen count connections) → ⊥
init_is_not_serve listen count connections is = absurd cc

pub init_not_run : (line : Option Line) → line ≡ Some init → line ≡ Some run → ⊥
init_not_run line first second = init_is_not_run (sym first ∙ second)

pub init_not_serve : (line : Option Line) (listen : List ℕ) (count connections : ℕ) → line ≡ Some init → line ≡ Some (serve listen count connections) → ⊥
init_not_serve line listen count connections first second = init_is_not_serve listen count connections (sym first ∙ second)

init_is_not_report : (month : ℕ) (as_text : Bool) → Some init ≡ Some (report month as_text) → ⊥
init_is_not_report month as_text is = absurd cc

pub init_not_report : (line : Option Line) (month : ℕ) (as_text : Bool) → line ≡ Some init → line ≡ Some (report month as_text) → ⊥
init_not_report line month as_text first second = init_is_not_report month as_text (sym first ∙ second)

init_is_not_explain : (workers : ℕ) → Some init ≡ Some (explain workers) → ⊥
init_is_not_explain workers is = absurd cc

pub init_not_explain : (line : Option Line) (workers : ℕ) → line ≡ Some init → line ≡ Some (explain workers) → ⊥
init_not_explain line workers first second = init_is_not_explain workers (sym first ∙ second)

init_is_not_bill : (month : ℕ) → Some init ≡ Some (bill month) → ⊥
init_is_not_bill month is = absurd cc

pub init_not_bill : (line : Option Line) (month : ℕ) → line ≡ Some init → line ≡ Some (bill month) → ⊥
init_not_bill line month first second = init_is_not_bill month (sym first ∙ second)

init_is_not_forecast : (bucket : List ℕ) (day : ℕ) → Some init ≡ Some (forecast bucket day) → ⊥
init_is_not_forecast bucket day is = absurd cc

pub init_not_forecast : (line : Option Line) (bucket : List ℕ) (day : ℕ) → line ≡ Some init → line ≡ Some (forecast bucket day) → ⊥
init_not_forecast line bucket day first second = init_is_not_forecast bucket day (sym first ∙ second)

-- a bucket and a day that are forecast
abbrev asked_of : Line → List ℕ × ℕ
asked_of (forecast bucket day) = (bucket, day)
asked_of other = ([], 0)

abbrev asked_in : Option Line → List ℕ × ℕ
asked_in None = ([], 0)
asked_in (Some line) = asked_of line

pub same_forecast : (line : Option Line) (bucket other : List ℕ) (day later : ℕ) → line ≡ Some (forecast bucket day) → line ≡ Some (forecast other later)
    → ◌≡◌ {A = List ℕ × ℕ} (bucket, day) (other, later)
same_forecast line bucket other day later first second = ap asked_in (sym first ∙ second)

-- a month that is billed
abbrev month_of : Line → ℕ
month_of (bill month) = month
month_of other = 0

abbrev month_in : Option Line → ℕ
month_in None = 0
month_in (Some line) = month_of line

pub same_bill : (line : Option Line) (month other : ℕ) → line ≡ Some (bill month) → line ≡ Some (bill other) → month ≡ other
same_bill line month other first second = ap month_in (sym first ∙ second)

-- the words are a command line, so only running out of memory refused them
pub refusal_six : (fault : LineFault) (line : Option Line) (asked : Line) (status : ℕ) → (fault ≡ refusals.NotALine → line ≡ None) → (fault ≡ refusals.NoMemory → status ≡ 6)
    → line ≡ Some asked → status ≡ 6
refusal_six refusals.NotALine line asked status none six some = absurd (let no = none refl in cc)
refusal_six refusals.NoMemory line asked status none six some = six refl
