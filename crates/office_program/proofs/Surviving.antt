-- What a crash leaves of each command line over a sound disk.
use Rattle.std.proofs.Common.{◌≡◌, ◌⊎◌, ⊎_elim, inl, inr, refl, ℕ, List, Option, Some, subst, sym}
use Rattle.std.specs.Prelude.{IsTrue}
use Rattle.disk_core.specs.Files.{State}
use Rattle.disk_core.specs.Fronts.{Narrower}
use Rattle.disk_core.specs.Moments.{KeepsTo}
use Rattle.office_types.specs.declared.command.Entry.{Entry}
use Rattle.command_line.specs.Lines.{Line, init, run, serve, report, explain, gen, bill, forecast}
use Rattle.desk_core.specs.Answers.{Call}
use Rattle.desk_core.specs.Histories.{HasAcceptedHistory, IsSound}
use Rattle.desk_core.specs.Runs.{outside, AnswersCalls}
use Rattle.http_front.specs.Counts.{stream_ends}
use Rattle.http_front.specs.Exchanges.{calls_of}
use Rattle.serving.specs.Serving.{log_calls}
use Rattle.office_commands.specs.Billing.{billing, BillsMonth}
use Rattle.office_commands.specs.Forecasting.{asking, ForecastsBucket}
use Rattle.office_commands.specs.Reporting.{TellsMonth}
use Rattle.office_commands.specs.Running.{Surroundings, around, journal_limit, AnswersStream, SaysNoReply, Starts}
use Rattle.office_program.specs.Carrying.{CarriesOut}
use Rattle.office_program.specs.Program.{Does}
use Rattle.office_program.specs.Survival.{AreAsked, AnswersNothing, AnswersSafely}
use Rattle.office_program.specs.Workers.{AnswersWorkers, Connects}
use Rattle.office_program.specs.Worlds.{World, Parts, place_of, setting_of}
use Rattle.office_program.proofs.Soundness.{not_none}

pub narrower_same : (s : State) → Narrower s s
narrower_same s = record { journal = λ image is. is; slot0 = refl; slot1 = refl }

module _ {S D C W P Source Replies K : Type 0} (g : Parts S D C W P Source Replies K) (honest : IsTrue g.disk.honest) where
  abbrev Stays : D → D → Type 0
  Stays old new = KeepsTo g.disk old new (Narrower (g.disk.state old))

  abbrev Saves : Option Line → World S D C W P K → World S D C W P K → Type 0
  Saves line old new = AnswersNothing g line old new ⊎ AnswersSafely g line old new

  abbrev IsNoServe : Line → Type 0
  IsNoServe line = (listen : List ℕ) (workers connections : ℕ) → line ≡ serve listen workers connections → ⊥

  -- no reply was said for a line that is neither `run` nor `serve`
  abbrev IsUnsaid : Line → World S D C W P K → World S D C W P K → Type 0
  IsUnsaid line old new = (Some line ≡ Some run → ⊥) → IsNoServe line → SaysNoReply g.out old.out new.out

  -- the calls that an office answered are safe
  pub answers_safely : (line : Option Line) (old new : World S D C W P K) (clock : C) (calls : List Call)
      → AreAsked g line old new calls → IsSound (g.disk.state old.disk)
      → AnswersCalls g.disk g.clock journal_limit (outside old.disk clock) (outside new.disk new.clock) calls
      → AnswersSafely g line old new
  answers_safely line old new clock calls asked sound answers =
      let legally = answers.sound honest sound in record {
        calls = calls;
        are_asked = asked;
        clock = clock;
        made = answers.calls_are;
        opened = legally.opened;
        limit_is = legally.limit_is;
        faults = legally.faults;
        read = legally.disk.read;
        history = legally.history;
        legal = legally.legal;
        opening = legally.disk.opening;
        begun = legally.disk.begun;
        before = legally.disk.before;
        since = legally.disk.since;
        told = legally.disk.serves.told;
        recovers = legally.disk.serves.left;
      }

  -- a command that asks the clock first
  starts_survives : {X : Type 0} (part_old part_new : X) (answers : ℕ → Surroundings D C W → Surroundings D C W → ℕ → Type 0)
      (line : Option Line) (old new : World S D C W P K) (status : ℕ) → (part_new ≡ part_old → line ≡ Some run → new.input ≡ old.input) → (part_new ≡ part_old → new.port ≡ old.port)
      → ((first : ℕ) (clock : C) → answers first (around old.disk clock old.out) (place_of new) status → Saves line old new)
      → Stays old.disk old.disk → Starts g.disk g.clock g.out part_old part_new answers (place_of old) (place_of new) status → Saves line old new
  starts_survives part_old part_new answers line old new status unread alone saves still starts =
      ⊎_elim
      (λ does. ⊎_elim
      (λ answered. saves starts.first starts.clock answered)
      (λ refused. inl (record {
        kept = refused.0.refused.any_moment honest;
        unsaid = refused.0.refused.silent.0;
        unread = unread refused.1;
        unused = alone refused.1;
      })) does.1)
      (λ ends. inl (record {
        kept = subst (λ (disk : D). Stays old.disk disk) (sym ends.1.untouched) still;
        unsaid = ends.1.silent.0;
        unread = unread ends.2;
        unused = alone ends.2;
      })) starts.does

  -- every command line
  pub does_survive : (line : Line) (old new : World S D C W P K) (status : ℕ) → IsSound (g.disk.state old.disk)
      → (history : List Entry) → HasAcceptedHistory history (g.disk.state old.disk).journal.seen
      → Stays old.disk old.disk → IsUnsaid line old new → (IsNoServe line → new.port ≡ old.port) → Does g line old new status → Saves (Some line) old new
  does_survive init old new status sound history has still unsaid port does = inl (record {
    kept = does.0.unchanged honest (not_none (g.disk.state old.disk).journal.seen history has);
    unsaid = (unsaid (λ is. absurd cc) (λ listen workers connections is. absurd cc)).0;
    unread = λ is. absurd cc;
    unused = port (λ listen workers connections is. absurd cc);
  })
  does_survive run old new status sound history has still unsaid port does =
      starts_survives old.input new.input
      (λ first. AnswersStream g.disk g.clock g.out (stream_ends (g.input.left old.input) (g.input.left new.input)))
      (Some run) old new status (λ same _. same) (λ _. port (λ listen workers connections is. absurd cc))
      (λ first clock a. inr (answers_safely (Some run) old new clock (calls_of a.talk.spoken.exchanges)
      (record { end = a.end; talk = a.talk; asked = refl; said = a.said_all; stamped = a.stamped }) sound a.answers))
      still does
  does_survive (serve listen workers connections) old new status sound history has still unsaid port does =
      starts_survives old.port new.port
      (λ first. AnswersWorkers g.disk g.clock g.out (Connects g.port g.gate listen workers connections old.port new.port))
      (Some (serve listen workers connections)) old new status (λ _ is. absurd cc) (λ same. same)
      (λ first clock a. inr (answers_safely (Some (serve listen workers connections)) old new clock (log_calls a.log)
      (record { end = a.end; log = a.log; asked = refl; connects = a.connections }) sound a.answers))
      still does
  does_survive (report month as_text) old new status sound history has still unsaid port does =
      let same = port (λ listen workers connections is. absurd cc) in
      starts_survives month month (TellsMonth g.disk g.out month as_text) (Some (report month as_text)) old new status (λ _ is. absurd cc) (λ _. same)
      (λ first clock told. inl (record { kept = told.any_moment honest; unsaid = (unsaid (λ is. absurd cc) (λ listen workers connections is. absurd cc)).0; unread = λ is. absurd cc; unused = same })) still does
  does_survive (explain workers) old new status sound history has still unsaid port (inl told) = inl (record {
    kept = told.any_moment honest;
    unsaid = (unsaid (λ is. absurd cc) (λ listen workers connections is. absurd cc)).0;
    unread = λ is. absurd cc;
    unused = port (λ listen workers connections is. absurd cc);
  })
  does_survive (explain workers) old new status sound history has still unsaid port (inr failed) = inl (record {
    kept = failed.refused.any_moment honest;
    unsaid = (unsaid (λ is. absurd cc) (λ listen workers connections is. absurd cc)).0;
    unread = λ is. absurd cc;
    unused = port (λ listen workers connections is. absurd cc);
  })
  does_survive (gen number count) old new status sound history has still unsaid port does = inl (record {
    kept = subst (λ (disk : D). Stays old.disk disk) (sym does.1) still;
    unsaid = (unsaid (λ is. absurd cc) (λ listen workers connections is. absurd cc)).0;
    unread = λ is. absurd cc;
    unused = port (λ listen workers connections is. absurd cc);
  })
  does_survive (bill month) old new status sound history has still unsaid port does =
      let same = port (λ listen workers connections is. absurd cc) in
      starts_survives old.keeper new.keeper (BillsMonth g.disk g.out g.keeper (billing month old.keeper new.keeper)) (Some (bill month))
      old new status (λ _ is. absurd cc) (λ _. same)
      (λ first clock told. inl (record { kept = told.any_moment honest; unsaid = (unsaid (λ is. absurd cc) (λ listen workers connections is. absurd cc)).0; unread = λ is. absurd cc; unused = same })) still does
  does_survive (forecast bucket day) old new status sound history has still unsaid port does =
      let same = port (λ listen workers connections is. absurd cc) in
      starts_survives old.input new.input
      (ForecastsBucket g.disk g.out (asking bucket day) (stream_ends (g.input.left old.input) (g.input.left new.input)))
      (Some (forecast bucket day)) old new status (λ _ is. absurd cc) (λ _. same)
      (λ first clock told. inl (record { kept = told.any_moment honest; unsaid = (unsaid (λ is. absurd cc) (λ listen workers connections is. absurd cc)).0; unread = λ is. absurd cc; unused = same })) still does

module _ {S D C W P Source Replies K : Type 0} (g : Parts S D C W P Source Replies K) where
  -- what needs no port is done
  pub does_carried : (line : Line) (old new : World S D C W P K) (status : ℕ)
      → CarriesOut g.input g.disk g.clock g.out g.keeper line (setting_of old) (setting_of new) status → Does g line old new status
  does_carried init old new status does = does
  does_carried run old new status does = does
  does_carried (serve listen workers connections) old new status does = absurd does
  does_carried (report month as_text) old new status does = does
  does_carried (explain workers) old new status does = does
  does_carried (gen number count) old new status does = does
  does_carried (bill month) old new status does = does
  does_carried (forecast bucket day) old new status does = does

  -- whatever the address is called
  pub does_served : (listen told : List ℕ) (workers connections : ℕ) (old new : World S D C W P K) (status : ℕ) → listen ≡ told
      → Does g (serve listen workers connections) old new status → Does g (serve told workers connections) old new status
  does_served listen told workers connections old new status is does =
      subst (λ (l : List ℕ). Does g (serve l workers connections) old new status) is does
