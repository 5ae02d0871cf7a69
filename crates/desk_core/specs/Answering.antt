-- What a call does once its moment is told.
use Rattle.std.specs.Prelude.{◌≡◌, ◌⊎◌, ℕ, ◌+◌, ◌<◌, ◌≤◌, false, ◌&&◌, [], ◌∷◌, ◌++◌, length, Some, None, Result, Ok, Err, IsTrue, IsSomeAnd}
use Rattle.office_base.specs.Faults.{Rose}
use Rattle.moments.specs.Time.{end_of_time}
use Rattle.disk_core.specs.declared.disk.Disk as disks
use Rattle.disk_core.specs.Moments.{KeepsTo}
use Rattle.disk_core.specs.Tallies.{IsDurable}
use Rattle.plain_office.specs.Answers.{answer}
use Rattle.plain_office.specs.Office.{Office}
use Rattle.plain_office.specs.Once.{kept_for, step_with}
use Rattle.plain_office.specs.Step.{is_accepted}
use Rattle.plain_office.specs.Run.{accept, is_new}
use Rattle.office_types.specs.declared.command.Ask.{Ask}
use Rattle.office_types.specs.declared.command.Ask.TheVariants as ask
use Rattle.office_types.specs.declared.command.Entry.{Entry}
use Rattle.office_types.specs.declared.reply.Reply.{Reply}
use Rattle.office_types.specs.declared.refusal.Refusal.{Refusal}
use Rattle.office_types.specs.declared.refusal.Refusal.TheVariants.{ClockEnd}
use Rattle.office_machine.specs.Once.{StandsFor}
use Rattle.entry_codec.specs.Spelling.{spelling}
use Rattle.meter_journal.specs.History.{end_gate, IsAtRest, BeforeOrAfter}
use Rattle.desk_core.specs.Answers.{Answer}
use Rattle.desk_core.specs.Asked.{Asked, asked, entry_of, IsFresh}
use Rattle.desk_core.specs.Calls.{moment_after}
use Rattle.desk_core.specs.Desk.{DeskView, HoldsTail}
use Rattle.desk_core.specs.Offices.{Tail, with_entry}
use Rattle.desk_core.specs.Submitting.{PassesLimit}
use Rattle.desk_core.specs.declared.fault.DeskFault.{DeskFault}
use Rattle.desk_core.specs.declared.fault.DeskFault.TheVariants as faults

-- when an ask is answered: at this moment, for which the clock told this number
pub record CallTime : Type 0 where
  pub moment : ℕ
  pub told : ℕ

-- this moment, by this number
abbrev pub call_time : ℕ → ℕ → CallTime
call_time moment told = record { moment = moment; told = told }

-- the answer has this time, and was given by this office, at its disk's moment
pub record IsAnswerOf {D C : Type 0} (disk_time : D → ℕ) (time : CallTime) (new : DeskView D C)
    (said : Answer) : Type 0 where
  pub moment : said.moment ≡ time.moment
  pub told : said.told ≡ time.told
  pub position : said.position ≡ new.gate
  pub disk_moment : said.disk_moment ≡ disk_time new.disk

-- from the old disk to the new one each image of the journal file has these entries, with one more or without
abbrev pub AddsOrNot : {D : Type 0} → disks.Ghosts D → Tail → Entry → D → D → Type 0
AddsOrNot d before entry old new = KeepsTo d old new (BeforeOrAfter before.head before.entries entry (d.state old))

module _ {D C : Type 0} (d : disks.Ghosts D) where
  -- the entries grew by one, and in between each image had it or had it not; it was synced, and the disk did not fail
  pub record Grows (before : Tail) (entry : Entry) (old new : DeskView D C) : Type 0 where
    pub holds : HoldsTail d (with_entry before entry) new
    pub run : IsTrue d.honest → AddsOrNot d before entry old.disk new.disk
    pub durable : IsDurable (d.tally old.disk) (d.tally new.disk)
    pub quiet : d.fault_count new.disk ≡ d.fault_count old.disk

  -- nothing was written
  pub record Stays (before : Tail) (old new : DeskView D C) : Type 0 where
    pub holds : HoldsTail d before new
    pub disk : new.disk ≡ old.disk

  -- the disk failed while the entry was added, whose command is accepted, and under whose token no reply is kept
  pub record StoreFails (office : Office) (before : Tail) (entry : Entry)
      (old new : DeskView D C) : Type 0 where
    pub accepted : (plain : Office) → StandsFor old.office plain
        → (kept_for entry.token plain ≡ None)
        × IsTrue (is_accepted (step_with entry.moment entry.token entry.command plain).1)
    pub next : (after : Office) × (accept office entry ≡ Some after)
    pub run : IsTrue d.honest → AddsOrNot d before entry old.disk new.disk
    pub rose : Rose (d.fault_count old.disk) (d.fault_count new.disk)

  -- what adding the entry of a command does, to which this is the reply: the entry is there and the disk did not fail,
  -- or the disk failed
  abbrev pub AddsEntry : CallTime → Result Reply Refusal → Tail → Entry → DeskView D C → DeskView D C
      → Result Answer DeskFault → Type 0
  AddsEntry time reply before entry old new (Ok said) =
      (said ≡ record {
        moment = time.moment;
        told = time.told;
        reply = reply;
        position = new.gate;
        disk_moment = d.moment new.disk;
      })
      × (new.gate ≡ end_gate before.head (before.entries ++ entry ∷ []))
      × (IsTrue d.honest → IsAtRest before.head (d.state new.disk) new.gate (before.entries ++ entry ∷ [])
      × AddsOrNot d before entry old.disk new.disk)
      × IsDurable (d.tally old.disk) (d.tally new.disk) × (d.fault_count new.disk ≡ d.fault_count old.disk)
  AddsEntry time reply before entry old new (Err (faults.StoreFault (Some told) count)) =
      (told ≡ time.told) × (count ≡ d.fault_count new.disk) × Rose (d.fault_count old.disk) (d.fault_count new.disk)
      × (IsTrue d.honest → AddsOrNot d before entry old.disk new.disk)
  AddsEntry time reply before entry old new (Err (faults.StoreFault None count)) = ⊥
  AddsEntry time reply before entry old new (Err faults.JournalFull) = ⊥
  AddsEntry time reply before entry old new (Err (faults.Broken fault)) = ⊥
  AddsEntry time reply before entry old new (Err faults.NoMemory) = ⊥

  -- What a command does before the end of time. The reply is that of `step_with`. If it is accepted and no reply is kept
  -- under its token, the history grows by it; else nothing is written. If no reply is kept, its frame fits.
  pub record CarriesOut (t : ℕ) (call : Asked) (office : Office) (before : Tail) (old new : DeskView D C)
      (reply : Result Reply Refusal) : Type 0 where
    pub told : reply ≡ (step_with t call.token call.command office).1
    pub fits : IsFresh call office → old.gate + 6 + length (spelling (entry_of t call)) ≤ old.limit
    pub grows : (IsTrue (is_new call.token office && is_accepted reply) × Grows before (entry_of t call) old new)
        ⊎ (((is_new call.token office && is_accepted reply) ≡ false) × Stays before old new)

  -- what an ask does that is answered before the end of time
  abbrev pub IsDoneAt : ℕ → Ask → Office → Tail → DeskView D C → DeskView D C → Result Reply Refusal → Type 0
  IsDoneAt t (ask.Query query) office before old new reply = (reply ≡ answer t query office) × Stays before old new
  IsDoneAt t question office before old new reply =
      IsSomeAnd (asked question) (λ call. CarriesOut t call office before old new reply)

  -- what a command does that the disk failed
  abbrev pub HasFailed : ℕ → Ask → Office → Tail → DeskView D C → DeskView D C → Type 0
  HasFailed t question office before old new =
      IsSomeAnd (asked question) (λ call. StoreFails office before (entry_of t call) old new)

  -- what an ask does before the end of time, on the plain office after these entries
  abbrev pub AnswersInTime : CallTime → Ask → Office → Tail → DeskView D C → DeskView D C
      → Result Answer DeskFault → Type 0
  AnswersInTime time question office before old new (Ok said) =
      IsAnswerOf d.moment time new said × IsDoneAt time.moment question office before old new said.reply
  AnswersInTime time question office before old new (Err (faults.StoreFault (Some told) count)) =
      (told ≡ time.told) × (count ≡ d.fault_count new.disk) × HasFailed time.moment question office before old new
  AnswersInTime time question office before old new (Err (faults.StoreFault None count)) = ⊥
  AnswersInTime time question office before old new (Err faults.JournalFull) =
      PassesLimit time.moment old question × Stays before old new
  AnswersInTime time question office before old new (Err (faults.Broken fault)) = ⊥
  AnswersInTime time question office before old new (Err faults.NoMemory) = Stays before old new

  -- from the end of time on the ask is answered so, and nothing is written
  abbrev pub AnswersEnded : CallTime → Tail → DeskView D C → DeskView D C → Result Answer DeskFault → Type 0
  AnswersEnded time before old new (Ok said) =
      IsAnswerOf d.moment time new said × (said.reply ≡ Err (ClockEnd time.moment)) × Stays before old new
  AnswersEnded time before old new (Err fault) = ⊥

  -- what an ask does
  abbrev pub AnswersAt : CallTime → Ask → Office → Tail → DeskView D C → DeskView D C → Result Answer DeskFault
      → Type 0
  AnswersAt time question office before old new said =
      ((time.moment < end_of_time) × AnswersInTime time question office before old new said)
      ⊎ ((end_of_time ≤ time.moment) × AnswersEnded time before old new said)

  -- an ask does so at the moment that this number of the clock gives it
  pub record AnswersAsk (number : ℕ) (question : Ask) (old new : DeskView D C)
      (said : Result Answer DeskFault) : Type 0 where
    pub t : ℕ
    pub at : t ≡ moment_after number old.office.records.last
    pub clock : C
    pub answers : (before : Tail) (hold : HoldsTail d before (record old { clock = clock }))
        → AnswersAt (call_time t number) question hold.office.plain before (record old { clock = clock }) new said
