-- A disk whose images have histories keeps to such images.
use Rattle.std.proofs.Common.{⊎_elim, inl, inr, ℕ, Bool, List, subst, sym}
use Rattle.std.specs.Prelude.{IsTrue}
use Rattle.disk_core.specs.declared.disk.Disk as disks
use Rattle.disk_core.specs.Moments.{KeepsTo}
use Rattle.disk_core.proofs.Time.{weakened}
use Rattle.office_types.specs.declared.command.Entry.{Entry}
use Rattle.meter_journal.specs.Reading.{IsNotMade, IsForeign}
use Rattle.meter_journal.proofs.Heads.{history_made, made_not_none, made_not_foreign}
use Rattle.desk_core.specs.declared.clock.Clock as clocks
use Rattle.desk_core.specs.Answers.{Call}
use Rattle.desk_core.specs.Histories.{HasAcceptedHistory, IsSound}
use Rattle.desk_core.specs.Runs.{Outside, AnswersCalls}
use Rattle.desk_core.proofs.Staying.{narrower_sound}
use Rattle.http_front.specs.declared.replies.Replies as sinks
use Rattle.bill_book.specs.declared.keeper.BillKeeper as keepers
use Rattle.office_commands.specs.Billing.{Billing, BillsMonth}
use Rattle.office_commands.specs.Making.{Inits}
use Rattle.command_line.specs.declared.line.ForecastAsked.{ForecastAsked}
use Rattle.http_front.specs.Counts.{StreamEnds}
use Rattle.office_commands.specs.Explaining.{Explains}
use Rattle.office_commands.specs.Forecasting.{ForecastsBucket}
use Rattle.office_commands.specs.Reporting.{TellsMonth}
use Rattle.office_commands.specs.Running.{Surroundings, FailsToOpen, Starts}

-- ---- what is read has a history

module _ (file : List ℕ) (history : List Entry) (has : HasAcceptedHistory history file) where
  pub not_none : IsNotMade file → ⊥
  not_none none = made_not_none file (history_made history file has.entries) none

  pub not_foreign_there : IsForeign file → ⊥
  not_foreign_there foreign = made_not_foreign file (history_made history file has.entries) foreign

module _ {D C W : Type 0} (d : disks.Ghosts D) (k : clocks.Ghosts C) (w : sinks.Ghosts W) (tells : IsTrue d.honest) where
  abbrev StaysSound : D → D → Type 0
  StaysSound old new = KeepsTo d old new IsSound

  pub calls_sound : (limit : ℕ) (old new : Outside D C) (calls : List Call) → IsSound (d.state old.disk) → AnswersCalls d k limit old new calls → StaysSound old.disk new.disk
  calls_sound limit old new calls sound a =
      (a.sound tells sound).disk.sound

  refused_sound : (old new : Surroundings D C W) (status : ℕ) → IsSound (d.state old.disk) → FailsToOpen d k w old new status → StaysSound old.disk new.disk
  refused_sound old new status sound r =
      weakened IsSound (r.refused.any_moment tells) (λ s narrow. narrower_sound (d.state old.disk) s sound narrow)

  pub reported_sound : (month : ℕ) (as_text : Bool) (first : ℕ) (old new : Surroundings D C W) (status : ℕ) → IsSound (d.state old.disk) → TellsMonth d w month as_text first old new status
      → StaysSound old.disk new.disk
  reported_sound month as_text first old new status sound r =
      weakened IsSound (r.any_moment tells) (λ s narrow. narrower_sound (d.state old.disk) s sound narrow)

  pub billed_sound : {K : Type 0} (b : keepers.Ghosts K) (one : Billing K) (first : ℕ) (old new : Surroundings D C W) (status : ℕ) → IsSound (d.state old.disk)
      → BillsMonth d w b one first old new status → StaysSound old.disk new.disk
  billed_sound b one first old new status sound r =
      weakened IsSound (r.any_moment tells) (λ s narrow. narrower_sound (d.state old.disk) s sound narrow)

  pub foretold_sound : (asked : ForecastAsked) (input : StreamEnds) (first : ℕ) (old new : Surroundings D C W) (status : ℕ) → IsSound (d.state old.disk)
      → ForecastsBucket d w asked input first old new status → StaysSound old.disk new.disk
  foretold_sound asked input first old new status sound r =
      weakened IsSound (r.any_moment tells) (λ s narrow. narrower_sound (d.state old.disk) s sound narrow)

  pub explained_sound : (old new : Surroundings D C W) (status : ℕ) → IsSound (d.state old.disk) → Explains d k w old new status → StaysSound old.disk new.disk
  explained_sound old new status sound (inl told) =
      weakened IsSound (told.any_moment tells) (λ s narrow. narrower_sound (d.state old.disk) s sound narrow)
  explained_sound old new status sound (inr failed) =
      weakened IsSound (failed.refused.any_moment tells) (λ s narrow. narrower_sound (d.state old.disk) s sound narrow)

  -- also where nothing is touched
  pub starts_sound : {X : Type 0} (part_old part_new : X) (answers : ℕ → Surroundings D C W → Surroundings D C W → ℕ → Type 0)
      → ((first : ℕ) (old new : Surroundings D C W) (status : ℕ) → IsSound (d.state old.disk) → answers first old new status → StaysSound old.disk new.disk)
      → (old new : Surroundings D C W) (status : ℕ) → IsSound (d.state old.disk) → StaysSound old.disk old.disk → Starts d k w part_old part_new answers old new status → StaysSound old.disk new.disk
  starts_sound part_old part_new answers keeps old new status sound still starts =
      let first : Surroundings D C W = record { disk = old.disk; clock = starts.clock; out = old.out } in
      ⊎_elim
      (λ does. ⊎_elim
      (λ answered. keeps starts.first first new status sound answered)
      (λ refused. refused_sound first new status sound refused.0) does.1)
      (λ ends. subst (λ (disk : D). StaysSound old.disk disk) (sym ends.1.untouched) still) starts.does

module _ {D W : Type 0} (d : disks.Ghosts D) (w : sinks.Ghosts W) (tells : IsTrue d.honest) where
  pub init_sound : (status : ℕ) (old new : D) (out_old out_new : W) (history : List Entry) → IsSound (d.state old) → HasAcceptedHistory history (d.state old).journal.seen
      → Inits d w old new out_old out_new status → KeepsTo d old new IsSound
  init_sound status old new out_old out_new history sound has inits =
      weakened IsSound (inits.unchanged tells (not_none (d.state old).journal.seen history has)) (λ s narrow. narrower_sound (d.state old) s sound narrow)
