-- What the program does with the words after its name: what each clause of `office` says.
use Rattle.std.specs.Prelude.{◌≡◌, ◌⊎◌, ℕ, List, [], Option, Some, None, IsSome, IsTrue}
use Rattle.disk_core.specs.Moments.{KeepsTo}
use Rattle.meter_journal.specs.Reading.{IsForeign, IsNotMade}
use Rattle.office_types.specs.declared.command.Entry.{Entry}
use Rattle.command_line.specs.Lines.{Line, init, serve, bill, forecast}
use Rattle.desk_core.specs.Histories.{HasAcceptedHistory, IsSound, RestartsSound, SlotsFit}
use Rattle.http_wire.specs.Held.{take_limit}
use Rattle.http_front.specs.Counts.{GaveBytes}
use Rattle.office_commands.specs.Lines.{usage_note}
use Rattle.office_commands.specs.Billing.{billing, CanBill}
use Rattle.office_commands.specs.Forecasting.{asking, CanForecast}
use Rattle.office_commands.specs.Running.{IsNoted, IsSilent, RunsOut}
use Rattle.office_program.specs.Carrying.{CarriesOut}
use Rattle.office_program.specs.Commands.{TouchesOwn, IsCaused, NoneFailed, NoBillingFailed, NoForecastingFailed, IsDone}
use Rattle.office_program.specs.Workers.{Connects, ServesPort}
use Rattle.office_program.specs.Worlds.{World, Parts, place_of, setting_of, counts_at}

-- nothing is touched but the output
abbrev pub TouchesOutput : {S D C W P K : Type 0} → World S D C W P K → World S D C W P K → Type 0
TouchesOutput old new = new ≡ record old { out = new.out }

module _ {S D C W P Source Replies K : Type 0} (g : Parts S D C W P Source Replies K) where
  -- what each command line does
  abbrev pub Does : Line → World S D C W P K → World S D C W P K → ℕ → Type 0
  Does (serve listen workers connections) old new status = ServesPort g.disk g.clock g.out old.port new.port
      (Connects g.port g.gate listen workers connections old.port new.port) (place_of old) (place_of new) status
  Does line old new status =
      CarriesOut g.input g.disk g.clock g.out g.keeper line (setting_of old) (setting_of new) status

  -- memory ran out before the words were read
  pub record IsUnread (old new : World S D C W P K) (status : ℕ) : Type 0 where
    pub runs_out : RunsOut g.out old.out new.out status
    pub untouched : TouchesOutput old new

  -- the words are no command line
  pub record RefusesWords (old new : World S D C W P K) (status : ℕ) : Type 0 where
    pub status_is : status ≡ 1
    pub untouched : TouchesOutput old new
    pub silent : IsSilent g.out old.out new.out
    pub note : IsNoted g.out old.out new.out usage_note

  -- what is done for words that are this command line, or none
  abbrev pub Obeys : Option Line → World S D C W P K → World S D C W P K → ℕ → Type 0
  Obeys (Some line) old new status = Does line old new status ⊎ IsUnread old new status
  Obeys None old new status = RefusesWords old new status ⊎ IsUnread old new status

  -- each command line touches only its own part
  abbrev pub Touches : Option Line → World S D C W P K → World S D C W P K → ℕ → Type 0
  Touches line old new status = TouchesOwn g.out line (new.input ≡ old.input) (new.port ≡ old.port)
      (new.keeper ≡ old.keeper) old.out new.out status

  -- each exit code has its cause
  abbrev pub HasExitCause : Option Line → World S D C W P K → World S D C W P K → ℕ → Type 0
  HasExitCause line old new status = IsCaused line (counts_at g old) (counts_at g new)
      (IsTrue g.disk.honest → IsForeign (g.disk.state old.disk).journal.seen)
      (GaveBytes (g.input.left old.input) (g.input.left new.input) take_limit) status

  -- an honest and sound disk is never refused as not made, foreign or damaged, and it stays sound at every moment
  abbrev pub StaysSound : World S D C W P K → World S D C W P K → ℕ → Type 0
  StaysSound old new status = IsTrue g.disk.honest → IsSound (g.disk.state old.disk)
      → (status ≡ 5 → ⊥) × KeepsTo g.disk old.disk new.disk IsSound

  -- Whatever a crash at any moment leaves of an honest and sound disk is sound when the machine starts again: the next
  -- run begins on such a disk.
  abbrev pub LeavesSound : World S D C W P K → World S D C W P K → Type 0
  LeavesSound old new = IsTrue g.disk.honest → IsSound (g.disk.state old.disk)
      → KeepsTo g.disk old.disk new.disk RestartsSound

  -- On an honest disk without a journal, `init` leaves a sound disk, also if its line was printed only in part, and so
  -- does a crash after it. Each slot that decodes must be of a journal without entries. In a new folder there is none.
  abbrev pub BeginsSound : Option Line → World S D C W P K → World S D C W P K → ℕ → Type 0
  BeginsSound line old new status = IsTrue g.disk.honest → line ≡ Some init
      → IsNotMade (g.disk.state old.disk).journal.seen → SlotsFit [] (g.disk.state old.disk)
      → (status ≡ 0) ⊎ (status ≡ 4) → IsSound (g.disk.state new.disk) × RestartsSound (g.disk.state new.disk)

  -- A command line is done if nothing outside fails and the clock is not at its end. The disk must be sound, or for
  -- `init`, its journal must not be foreign.
  abbrev pub MustBeDone : Option Line → World S D C W P K → World S D C W P K → ℕ → Type 0
  MustBeDone line old new status = IsTrue g.disk.honest → IsSome line
      → IsSound (g.disk.state old.disk)
      ⊎ ((line ≡ Some init) × (IsForeign (g.disk.state old.disk).journal.seen → ⊥))
      → NoneFailed (counts_at g old) (counts_at g new) → (status ≡ 8 → ⊥) → IsDone line status

  -- On a sound disk a closed month is billed if nothing that billing uses fails and the clock is not at its end. The
  -- keeper must have no bills of the month or just these. Only memory may run out.
  abbrev pub MustBill : Option Line → World S D C W P K → World S D C W P K → ℕ → Type 0
  MustBill line old new status = (month : ℕ) (history : List Entry) → line ≡ Some (bill month)
      → IsTrue g.disk.honest → IsSound (g.disk.state old.disk)
      → HasAcceptedHistory history (g.disk.state old.disk).journal.seen
      → CanBill g.keeper history (billing month old.keeper new.keeper)
      → NoBillingFailed (counts_at g old) (counts_at g new)
      → (status ≡ 8 → ⊥) → (status ≡ 0) ⊎ (status ≡ 6)

  -- On a sound disk, what can be forecast is forecast if nothing that a forecast uses fails and the clock is not at its
  -- end. The input's bytes must be known and be a configuration, and the office must accept it as of the clock's number.
  -- Only memory may run out.
  abbrev pub MustForecast : Option Line → World S D C W P K → World S D C W P K → ℕ → Type 0
  MustForecast line old new status = (bucket : List ℕ) (day : ℕ) (history : List Entry) (bytes : List ℕ)
      → line ≡ Some (forecast bucket day) → IsTrue g.disk.honest → IsSound (g.disk.state old.disk)
      → HasAcceptedHistory history (g.disk.state old.disk).journal.seen → g.input.left old.input ≡ Some bytes
      → CanForecast history (asking bucket day) bytes (g.clock.last new.clock)
      → NoForecastingFailed (counts_at g old) (counts_at g new)
      → (status ≡ 8 → ⊥) → (status ≡ 0) ⊎ (status ≡ 6)
