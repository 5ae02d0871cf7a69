-- What a command line other than `serve` does, with no port.
use Rattle.std.specs.Prelude.{◌≡◌, ◌⊎◌, ◌≤◌, ℕ, List, Some, IsTrue}
use Rattle.disk_core.specs.declared.disk.Disk as disks
use Rattle.meter_journal.specs.Reading.{IsForeign}
use Rattle.office_types.specs.declared.command.Entry.{Entry}
use Rattle.command_line.specs.Lines.{Line, init, run, serve, report, explain, gen, bill, forecast, most_workers}
use Rattle.bill_book.specs.declared.keeper.BillKeeper as keepers
use Rattle.desk_core.specs.declared.clock.Clock as clocks
use Rattle.desk_core.specs.Histories.{HasAcceptedHistory, IsSound}
use Rattle.http_wire.specs.declared.source.Source as sources
use Rattle.http_front.specs.declared.replies.Replies as sinks
use Rattle.http_front.specs.Counts.{StreamEnds, stream_ends}
use Rattle.office_commands.specs.Billing.{Billing, billing, Bills, CanBill}
use Rattle.office_commands.specs.Explaining.{Explains}
use Rattle.office_commands.specs.Forecasting.{asking, Forecasts, CanForecast}
use Rattle.office_commands.specs.Loading.{Loads}
use Rattle.office_commands.specs.Making.{InitsAlone}
use Rattle.office_commands.specs.Reporting.{Reports}
use Rattle.office_commands.specs.Running.{Surroundings, around, Runs}
use Rattle.office_program.specs.Commands.{FaultCounts, faults, NoneFailed, NoBillingFailed, NoForecastingFailed, IsDone}

-- it is not `serve`, and the workers of an `explain` are in range
abbrev pub NeedsNoPort : Line → Type 0
NeedsNoPort init = Unit {0}
NeedsNoPort run = Unit {0}
NeedsNoPort (serve listen workers connections) = ⊥
NeedsNoPort (report month as_text) = Unit {0}
NeedsNoPort (explain workers) = (1 ≤ workers) × (workers ≤ most_workers)
NeedsNoPort (gen number count) = Unit {0}
NeedsNoPort (bill month) = Unit {0}
NeedsNoPort (forecast bucket day) = Unit {0}

-- what such a command works on and may change: a disk, a clock and a sink, an input, and a keeper of bills
pub record Setting (S D C W K : Type 0) : Type 0 where
  pub place : Surroundings D C W
  pub input : S
  pub keeper : K

module _ {S D C W K : Type 0} where
  -- this disk, clock, sink, input and keeper
  abbrev pub setting : D → C → W → S → K → Setting S D C W K
  setting disk clock out input keeper = record { place = around disk clock out; input = input; keeper = keeper }

  -- the keeper before and after, with the month that is billed
  abbrev pub billed : ℕ → Setting S D C W K → Setting S D C W K → Billing K
  billed month old new = billing month old.keeper new.keeper

module _ {S D C W K : Type 0} (s : sources.Ghosts S) (d : disks.Ghosts D) (k : clocks.Ghosts C) (w : sinks.Ghosts W)
    (b : keepers.Ghosts K) where
  -- the input before, and what is left of it
  abbrev pub input_ends : Setting S D C W K → Setting S D C W K → StreamEnds
  input_ends old new = stream_ends (s.left old.input) (s.left new.input)

  -- how often each has failed so far; there is no port, so its count is 0
  abbrev pub counts : Setting S D C W K → FaultCounts
  counts at = faults (d.fault_count at.place.disk) (s.faults at.input) (w.faults at.place.out) 0 (b.faults at.keeper)

  -- what each command line does
  abbrev pub CarriesOut : Line → Setting S D C W K → Setting S D C W K → ℕ → Type 0
  CarriesOut init old new status = InitsAlone d w old.place new.place status
  CarriesOut run old new status =
      Runs d k w old.input new.input (input_ends old new) old.place new.place status
  CarriesOut (serve listen workers connections) old new status = ⊥
  CarriesOut (report month as_text) old new status = Reports d k w month as_text old.place new.place status
  CarriesOut (explain workers) old new status = Explains d k w old.place new.place status
  CarriesOut (gen number count) old new status = Loads w number count old.place new.place status
  CarriesOut (bill month) old new status = Bills d k w b (billed month old new) old.place new.place status
  CarriesOut (forecast bucket day) old new status = Forecasts d k w old.input new.input (asking bucket day)
      (input_ends old new) old.place new.place status

  -- it is done if nothing outside fails and the clock is not at its end; the disk is sound, or the line is `init` and
  -- the journal is not foreign
  abbrev pub MustBeDone : Line → Setting S D C W K → Setting S D C W K → ℕ → Type 0
  MustBeDone line old new status = IsTrue d.honest
      → IsSound (d.state old.place.disk)
      ⊎ ((line ≡ init) × (IsForeign (d.state old.place.disk).journal.seen → ⊥))
      → NoneFailed (counts old) (counts new) → (status ≡ 8 → ⊥) → IsDone (Some line) status

  -- on a sound disk a closed month is billed if nothing that billing uses fails, the clock is not at its end, and the
  -- keeper has no bills of the month or just these; only memory may run out
  abbrev pub MustBill : Line → Setting S D C W K → Setting S D C W K → ℕ → Type 0
  MustBill line old new status = (month : ℕ) (history : List Entry) → line ≡ bill month
      → IsTrue d.honest → IsSound (d.state old.place.disk)
      → HasAcceptedHistory history (d.state old.place.disk).journal.seen
      → CanBill b history (billed month old new) → NoBillingFailed (counts old) (counts new)
      → (status ≡ 8 → ⊥) → (status ≡ 0) ⊎ (status ≡ 6)

  -- on a sound disk, what can be forecast is forecast if nothing that a forecast uses fails and the clock is not at its
  -- end; only memory may run out
  abbrev pub MustForecast : Line → Setting S D C W K → Setting S D C W K → ℕ → Type 0
  MustForecast line old new status = (bucket : List ℕ) (day : ℕ) (history : List Entry) (bytes : List ℕ)
      → line ≡ forecast bucket day → IsTrue d.honest → IsSound (d.state old.place.disk)
      → HasAcceptedHistory history (d.state old.place.disk).journal.seen → s.left old.input ≡ Some bytes
      → CanForecast history (asking bucket day) bytes (k.last new.place.clock)
      → NoForecastingFailed (counts old) (counts new)
      → (status ≡ 8 → ⊥) → (status ≡ 0) ⊎ (status ≡ 6)
