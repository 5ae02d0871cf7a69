-- A command that is accepted is synced before it is answered, on every disk.
use Rattle.std.proofs.Common.{◌≡◌, ℕ, Bool, true, false, ◌&&◌, ap, inl, inr, ⊎_elim, Some, None, Result, Ok, Err}
use Rattle.std.specs.Prelude.{IsTrue}
use Rattle.std.proofs.lemmas.Bool.{both_ways}
use Rattle.disk_core.specs.declared.disk.Disk as disks
use Rattle.disk_core.specs.Tallies.{IsDurable}
use Rattle.plain_office.specs.Once.{kept_for}
use Rattle.plain_office.specs.Run.{is_new}
use Rattle.plain_office.specs.Step.{is_accepted}
use Rattle.office_types.specs.declared.command.Ask.{Ask}
use Rattle.office_types.specs.declared.command.Ask.TheVariants as ask
use Rattle.desk_core.specs.Answers.{Answer}
use Rattle.desk_core.specs.Asked.{Asked, IsNotKept}
use Rattle.desk_core.specs.Answering.{call_time, CarriesOut, IsDoneAt, AnswersInTime, AnswersAt}
use Rattle.desk_core.specs.Desk.{DeskView, HoldsTail}
use Rattle.desk_core.specs.Offices.{Tail}
use Rattle.desk_core.specs.Submitting.{IsSyncedFirst}
use Rattle.desk_core.specs.declared.fault.DeskFault.{DeskFault}
use Rattle.desk_core.proofs.Offices.{fresh_in}

module _ {D C : Type 0} (d : disks.Ghosts D) (t number : ℕ) (before : Tail) (old new : DeskView D C) (hold : HoldsTail d before old) where
  abbrev Synced : Ask → Result Answer DeskFault → Type 0
  Synced question said = IsSyncedFirst (d.tally old.disk) (d.tally new.disk) question old.office said

  carried_synced : (call : Asked) (said : Answer) → CarriesOut d t call hold.office.plain before old new said.reply → IsNotKept call old.office
      → IsTrue (is_accepted said.reply) → IsDurable (d.tally old.disk) (d.tally new.disk)
  carried_synced call said carries not_kept accepted =
      ⊎_elim (λ grew. grew.1.durable) (λ stayed. absurd (both_ways _ stayed.0 written)) carries.grows
    where
      fresh : kept_for call.token hold.office.plain ≡ None
      fresh = fresh_in call.token old.office hold.office.plain hold.office.stands not_kept

      written : (is_new call.token hold.office.plain && is_accepted said.reply) ≡ true
      written = rw fresh accepted

  done_synced : (question : Ask) (said : Answer) → IsDoneAt d t question hold.office.plain before old new said.reply → Synced question (Ok said)
  done_synced (ask.Command command) said done = carried_synced _ said done
  done_synced (ask.Once token command) said done = carried_synced _ said done
  done_synced (ask.Query query) said done = tt

  in_time_synced : (question : Ask) (said : Result Answer DeskFault) → AnswersInTime d (call_time t number) question hold.office.plain before old new said → Synced question said
  in_time_synced question (Ok said) keeps = done_synced question said keeps.1
  in_time_synced question (Err fault) keeps = tt

  ended_synced : (question : Ask) (said : Answer) → is_accepted said.reply ≡ false → Synced question (Ok said)
  ended_synced (ask.Command command) said refused = λ _ accepted. absurd (both_ways _ refused accepted)
  ended_synced (ask.Once token command) said refused = λ _ accepted. absurd (both_ways _ refused accepted)
  ended_synced (ask.Query query) said refused = tt

  pub synced_so : (question : Ask) (said : Result Answer DeskFault) → AnswersAt d (call_time t number) question hold.office.plain before old new said → Synced question said
  synced_so question said (inl in_time) = in_time_synced question said in_time.1
  synced_so question (Ok said) (inr past) = ended_synced question said (ap is_accepted past.1.1)
  synced_so question (Err fault) (inr past) = tt
