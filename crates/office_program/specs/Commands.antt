-- What the program does with the words after its name, whatever they ask for.
use Rattle.std.specs.Prelude.{◌≡◌, ◌⊎◌, ◌≤◌, ℕ, Bool, String, List, Option, Some, None, map, string_bytes}
use Rattle.office_base.specs.Faults.{Rose}
use Rattle.command_line.specs.Lines.{Line, asked, init, run, serve, report, bill, forecast}
use Rattle.http_front.specs.declared.replies.Replies as sinks
use Rattle.office_commands.specs.Lines.{IsReportExit, IsBillExit, IsForecastExit, IsDoneExit}
use Rattle.office_program.specs.Workers.{IsServeExit}
use Rattle.office_commands.specs.Running.{SaysNoReply, NotesNothing}

-- the command line that these words are, if they are one
abbrev pub asks : {A : Type 0} → List (String A) → Option Line
asks words = asked (map string_bytes words)

-- the line asks for service
abbrev pub IsServe : Option Line → Type 0
IsServe line = (listen : List ℕ) × (workers : ℕ) × (connections : ℕ) × (line ≡ Some (serve listen workers connections))

-- the line asks for a report
abbrev pub IsReport : Option Line → Type 0
IsReport line = (month : ℕ) × (as_text : Bool) × (line ≡ Some (report month as_text))

-- the line asks for the bills of a month
abbrev pub IsBill : Option Line → Type 0
IsBill line = (month : ℕ) × (line ≡ Some (bill month))

-- the line asks for a forecast
abbrev pub IsForecastLine : Option Line → Type 0
IsForecastLine line = (bucket : List ℕ) × (day : ℕ) × (line ≡ Some (forecast bucket day))

-- the line reads the input, as messages or as a configuration
abbrev pub ReadsInput : Option Line → Type 0
ReadsInput line = (line ≡ Some run) ⊎ IsForecastLine line

-- ---- what is touched

module _ {W : Type 0} (w : sinks.Ghosts W) where
  -- Each command line touches only its own part of the surroundings.
  pub record TouchesOwn (line : Option Line) (input_stays port_stays keeper_stays : Type 0) (old new : W) (status : ℕ)
      : Type 0 where
    -- only a run says replies; neither a run nor a server prints other texts
    pub unsaid : (line ≡ Some run → ⊥) → SaysNoReply w old new
    pub no_text : (line ≡ Some run) ⊎ IsServe line → w.texts new ≡ w.texts old
    -- if all was done, nothing is noted and no text is lost
    pub unnoted : status ≡ 0 → NotesNothing w old new
    -- only a run and a forecast read the input, only a server uses the port, and only billing asks the keeper of bills;
    -- none of them does with exit code 5 or 8
    pub unread : (ReadsInput line → ⊥) → input_stays
    pub unused : (IsServe line → ⊥) → port_stays
    pub unbilled : (IsBill line → ⊥) → keeper_stays
    pub unopened : (status ≡ 5) ⊎ (status ≡ 8) → input_stays × port_stays × keeper_stays

-- ---- causes

-- how often each outside part of the program has failed so far
pub record FaultCounts : Type 0 where
  pub disk : ℕ
  pub input : ℕ
  pub output : ℕ
  pub port : ℕ
  pub keeper : ℕ

-- these counts, in this order
abbrev pub faults : ℕ → ℕ → ℕ → ℕ → ℕ → FaultCounts
faults disk input output port keeper =
    record { disk = disk; input = input; output = output; port = port; keeper = keeper }

-- the disk, the input, the output and the port did not fail meanwhile
abbrev pub NoneFailed : FaultCounts → FaultCounts → Type 0
NoneFailed old new =
    (Rose old.disk new.disk → ⊥) × (Rose old.input new.input → ⊥) × (Rose old.output new.output → ⊥)
    × (Rose old.port new.port → ⊥)

-- the disk, the output and the keeper of bills did not fail meanwhile
abbrev pub NoBillingFailed : FaultCounts → FaultCounts → Type 0
NoBillingFailed old new =
    (Rose old.disk new.disk → ⊥) × (Rose old.output new.output → ⊥) × (Rose old.keeper new.keeper → ⊥)

-- the disk, the input and the output did not fail meanwhile
abbrev pub NoForecastingFailed : FaultCounts → FaultCounts → Type 0
NoForecastingFailed old new =
    (Rose old.disk new.disk → ⊥) × (Rose old.input new.input → ⊥) × (Rose old.output new.output → ⊥)

-- Each status has its cause. With another status than 3 the input did not fail, with another than 7 the port did not,
-- and with status 0 the keeper of bills did not. Why a month is not billed, because it is not closed (12) or has other
-- bills (13), is part of what `bill` does (`BillsOffice`, `TellsPosting`). Why there is no forecast (14) is part of
-- what `forecast` does (`TellsSaid`). Why a journal is not opened is shown by the files (`OpenFailsOn`, through
-- `FailsToOpen`), or by the bytes of the journal alone for `explain` (`OpenFails`, through `FailsToRead`). `init`
-- refuses only a foreign one.
pub record IsCaused (line : Option Line) (old new : FaultCounts) (foreign spent : Type 0) (status : ℕ) : Type 0 where
  pub known : (status ≡ 1) ⊎ ((status ≡ 8) ⊎ (IsReportExit status ⊎ (IsServeExit status ⊎ (IsBillExit status
      ⊎ IsForecastExit status))))
  pub usage : status ≡ 1 → line ≡ None
  pub disk_fault : status ≡ 2 → Rose old.disk new.disk
  pub read_fault : status ≡ 3 → Rose old.input new.input
  pub read_done : (status ≡ 3 → ⊥) → new.input ≡ old.input
  pub write_fault : status ≡ 4 → Rose old.output new.output
  pub foreign_file : line ≡ Some init → status ≡ 5 → foreign
  pub port_fault : status ≡ 7 → Rose old.port new.port
  pub port_done : (status ≡ 7 → ⊥) → new.port ≤ old.port
  pub clock_end : status ≡ 8 → line ≡ Some init → ⊥
  pub input_spent : status ≡ 9 → spent
  pub no_tariff : status ≡ 10 → IsReport line
  pub keeper_fault : status ≡ 11 → Rose old.keeper new.keeper
  pub keeper_done : status ≡ 0 → new.keeper ≡ old.keeper
  pub bill_only : (status ≡ 11) ⊎ ((status ≡ 12) ⊎ (status ≡ 13)) → IsBill line
  pub input_only : status ≡ 3 → ReadsInput line
  pub forecast_only : status ≡ 14 → IsForecastLine line

-- the command line was done. This includes out of memory, too long an input, a report without a tariff, and a refused
-- forecast. It also includes a month that is not billed: the keeper failed, it is not closed, or it has other bills.
abbrev pub IsDone : Option Line → ℕ → Type 0
IsDone line status = IsDoneExit status ⊎ ((IsBill line × ((status ≡ 11) ⊎ ((status ≡ 12) ⊎ (status ≡ 13))))
    ⊎ (IsForecastLine line × (status ≡ 14)))
