-- What `forecast` prints: what a proposed configuration would do to a bucket, and charge, by a day.
use Rattle.std.specs.Prelude.{◌≡◌, ◌⊎◌, ◌≤◌, ◌<◌, ℕ, true, false, List, length, Some, Result, Ok, Err, IsTrue}
use Rattle.moments.specs.Months.{month_at}
use Rattle.disk_core.specs.declared.disk.Disk as disks
use Rattle.disk_core.specs.Fronts.{Narrower}
use Rattle.disk_core.specs.Moments.{KeepsTo, WritesNothing}
use Rattle.rules_core.specs.Configurations.{Configuration}
use Rattle.rules_json.specs.Reading.{rules_of}
use Rattle.office_types.specs.declared.command.Entry.{Entry}
use Rattle.office_types.specs.declared.refusal.Refusal.{Refusal}
use Rattle.office_types.specs.declared.refusal.Refusal.TheVariants.{NoSuchBucket, Full}
use Rattle.plain_office.specs.Office.{Office}
use Rattle.plain_office.specs.Run.{run}
use Rattle.plain_office.specs.Step.{is_accepted}
use Rattle.command_line.specs.declared.line.ForecastAsked.{ForecastAsked}
use Rattle.desk_core.specs.declared.clock.Clock as clocks
use Rattle.desk_core.specs.Calls.{moment_after}
use Rattle.office_machine.specs.Once.{StandsFor}
use Rattle.desk_core.specs.Desk.{DeskView}
use Rattle.desk_core.specs.Histories.{HasAcceptedHistory, IsSound}
use Rattle.desk_core.specs.Opening.{Opens}
use Rattle.forecast.specs.Forecasts.{Proposal, Outlook, proposed, IsForecast}
use Rattle.forecast.specs.declared.fault.ForecastFault.{ForecastFault}
use Rattle.forecast.specs.declared.fault.ForecastFault.TheVariants as begins
use Rattle.forecast_text.specs.Tables.{MonthSpan, forecast_text}
use Rattle.http_front.specs.declared.replies.Replies as sinks
use Rattle.http_front.specs.Counts.{StreamEnds}
use Rattle.http_front.specs.declared.answering.SessionEnd.TheVariants.{ReadFault}
use Rattle.office_commands.specs.Configuring.{most_configuration_bytes, SaysRules, fault_number}
use Rattle.office_commands.specs.declared.configuration.ConfigurationFault.{ConfigurationFault}
use Rattle.office_commands.specs.declared.configuration.ConfigurationFault.TheVariants as faults
use Rattle.office_commands.specs.Lines.{end_note, refused_note}
use Rattle.office_commands.specs.Running.{journal_limit, Surroundings, IsNoted, IsSilent, IsPutOut, RunsOut, Starts}

-- a forecast of this bucket by this day
abbrev pub asking : List ℕ → ℕ → ForecastAsked
asking bucket day = record { bucket = bucket; day = day }

-- the bucket gets this configuration at moment t, and is swept until the day
abbrev pub proposal : ForecastAsked → Configuration → ℕ → Proposal
proposal asked rules t = record { bucket = asked.bucket; rules = rules; from = t; until = asked.day }

-- the months of the second table: from that of the first moment to that of the day
abbrev pub months_of : Proposal → MonthSpan
months_of asked = record { first = month_at asked.from; last = month_at asked.until }

-- the status of a forecast by an open office
abbrev pub IsForetoldExit : ℕ → Type 0
IsForetoldExit status = (status ≡ 0) ⊎ ((status ≡ 4) ⊎ ((status ≡ 6) ⊎ (status ≡ 14)))

-- the office refuses a configuration if there is no such bucket, or if the configurations of all buckets would be too
-- long
abbrev pub MayRefuse : Refusal → Type 0
MayRefuse NoSuchBucket = Unit {0}
MayRefuse (Full what limit) = Unit {0}
MayRefuse other = ⊥

-- the numbers of those refusals (own)
abbrev pub IsRefusalNumber : Refusal → ℕ → Type 0
IsRefusalNumber NoSuchBucket number = number ≡ 81
IsRefusalNumber (Full what limit) number = number ≡ 90
IsRefusalNumber other number = ⊥

-- why a forecast is not begun: the day is past, the office refuses the configuration, or memory ran out
abbrev pub MayFail : ForecastFault → Type 0
MayFail (begins.PastDay t) = Unit {0}
MayFail (begins.Refused refusal) = MayRefuse refusal
MayFail begins.NoMemory = Unit {0}

-- ---- what is said

module _ {W : Type 0} (w : sinks.Ghosts W) where
  -- there is no forecast, for the reason with this number
  abbrev pub RefusesForecast : ℕ → W → W → ℕ → Type 0
  RefusesForecast number old new status = (status ≡ 14) × IsSilent w old new × IsNoted w old new (refused_note number)

  -- the office refuses the configuration
  abbrev pub RefusesRules : Refusal → W → W → ℕ → Type 0
  RefusesRules refusal old new status = (number : ℕ) × IsRefusalNumber refusal number × RefusesForecast number old new status

  -- what is said of a forecast that is not begun
  abbrev pub TellsFailure : ForecastFault → W → W → ℕ → Type 0
  TellsFailure (begins.PastDay t) old new status = RefusesForecast 140 old new status
  TellsFailure (begins.Refused refusal) old new status = RefusesRules refusal old new status
  TellsFailure begins.NoMemory old new status = RunsOut w old new status

  -- What is said of an accepted proposal is its forecast; of a refused one, the number of its refusal.
  abbrev pub TellsAnswer : Proposal → Office → W → W → ℕ → Type 0
  TellsAnswer asked office old new status =
      ((refusal : Refusal) × ((proposed asked office).1 ≡ Err refusal) × RefusesRules refusal old new status)
      ⊎ ((outlook : Outlook) × IsForecast asked office outlook
      × IsPutOut w (forecast_text (months_of asked) outlook) old new status)

  -- What is said of a proposal: a day in the past is refused first, whatever the office would answer. Memory may run
  -- out.
  abbrev pub TellsProposal : Proposal → Office → W → W → ℕ → Type 0
  TellsProposal asked office old new status =
      ((asked.until < asked.from) × RefusesForecast 140 old new status)
      ⊎ (((asked.from ≤ asked.until) × TellsAnswer asked office old new status) ⊎ RunsOut w old new status)

  -- what is said if the input is too long, is not a configuration, failed, or memory ran out
  abbrev pub TellsFault : ConfigurationFault → W → W → ℕ → Type 0
  TellsFault faults.TooLong old new status = RefusesForecast 124 old new status
  TellsFault (faults.Refused fault) old new status = RefusesForecast (fault_number fault) old new status
  TellsFault faults.ReadFault old new status =
      (status ≡ 3) × IsSilent w old new × IsNoted w old new (end_note ReadFault false)
  TellsFault faults.NoMemory old new status = RunsOut w old new status

  -- what is said of the contents of the input, as of this moment
  abbrev pub TellsSaid : ForecastAsked → ℕ → Office → Result Configuration ConfigurationFault → W → W → ℕ → Type 0
  TellsSaid asked t office (Ok rules) old new status = TellsProposal (proposal asked rules t) office old new status
  TellsSaid asked t office (Err fault) old new status = TellsFault fault old new status

  -- The forecast by this office for the input, as of the later of the clock's first number and the last moment.
  pub record ForecastsBy (office : Office) (asked : ForecastAsked) (input : StreamEnds) (first : ℕ) (old new : W)
      (status : ℕ) : Type 0 where
    pub said : Result Configuration ConfigurationFault
    pub says : SaysRules input said
    pub told : TellsSaid asked (moment_after first office.last) office said old new status

  -- the office after this history forecasts so
  pub record ForecastsAfter (history : List Entry) (asked : ForecastAsked) (input : StreamEnds) (first : ℕ) (old new : W)
      (status : ℕ) : Type 0 where
    pub office : Office
    pub is_run : run history ≡ Some office
    pub forecasts : ForecastsBy office asked input first old new status

module _ {D C W : Type 0} (d : disks.Ghosts D) (w : sinks.Ghosts W) where
  -- The office was opened, and prints its forecast. On a sound disk it is the office after the history that the
  -- journal, as read, has. Nothing is written to the journal, each image existed before, the disk did not fail, and the
  -- clock gives no further number.
  pub record ForecastsBucket (asked : ForecastAsked) (input : StreamEnds) (first : ℕ) (old new : Surroundings D C W)
      (status : ℕ) : Type 0 where
    pub desk : DeskView D C
    pub opens : Opens d old.disk old.clock journal_limit desk
    pub writes : WritesNothing d old.disk new.disk
    pub any_moment : IsTrue d.honest → KeepsTo d old.disk new.disk (Narrower (d.state old.disk))
    pub quiet : d.fault_count new.disk ≡ d.fault_count old.disk
    pub clock : new.clock ≡ old.clock
    pub forecasts : (office : Office) → StandsFor desk.office office
        → ForecastsBy w office asked input first old.out new.out status
    pub sound : IsTrue d.honest → IsSound (d.state old.disk)
        → (history : List Entry) × HasAcceptedHistory history (d.state old.disk).journal.seen
        × ForecastsAfter w history asked input first old.out new.out status

module _ {D C W : Type 0} (d : disks.Ghosts D) (k : clocks.Ghosts C) (w : sinks.Ghosts W) where
  -- what `forecast` does with an input; if the journal is not opened or the clock is at its end, the input is not read
  abbrev pub Forecasts : {S : Type 0} → S → S → ForecastAsked → StreamEnds → Surroundings D C W → Surroundings D C W
      → ℕ → Type 0
  Forecasts input_old input_new asked input = Starts d k w input_old input_new (ForecastsBucket d w asked input)

-- ---- what can be forecast

-- The bytes are a configuration. As of the later of the number and the last moment, the office after this history
-- accepts it, and the day is not before that moment.
pub record CanForecast (history : List Entry) (asked : ForecastAsked) (bytes : List ℕ) (told : ℕ) : Type 0 where
  pub office : Office
  pub is_run : run history ≡ Some office
  pub short : length bytes ≤ most_configuration_bytes
  pub rules : Configuration
  pub are_read : rules_of bytes ≡ Ok rules
  pub not_past : moment_after told office.last ≤ asked.day
  pub accepted : is_accepted (proposed (proposal asked rules (moment_after told office.last)) office).1 ≡ true
