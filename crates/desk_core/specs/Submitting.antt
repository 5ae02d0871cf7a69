-- What a call tells of the office that answers it, and how a stale desk comes to one.
use Rattle.std.specs.Prelude.{◌≡◌, ◌⊎◌, ℕ, ◌+◌, ◌-◌, ◌^◌, ◌<◌, ◌≤◌, min, true, false, List, [], ◌∷◌, ◌++◌, length, Some, None, Result, Ok, Err, IsTrue, IfSome, IsSomeAnd}
use Rattle.office_base.specs.Faults.{Rose}
use Rattle.disk_core.specs.declared.disk.Disk as disks
use Rattle.disk_core.specs.Files.{State, IsImage}
use Rattle.disk_core.specs.Tallies.{Tally, IsDurable}
use Rattle.disk_core.specs.Fronts.{Narrower}
use Rattle.disk_core.specs.Moments.{KeepsTo, WritesNothing}
use Rattle.moments.specs.Time.{end_of_time}
use Rattle.plain_office.specs.Answers.{answer}
use Rattle.plain_office.specs.Office.{Office, KeptReply}
use Rattle.plain_office.specs.Step.{is_accepted}
use Rattle.plain_office.specs.Once.{step_with}
use Rattle.office_types.specs.declared.command.Ask.{Ask}
use Rattle.office_types.specs.declared.command.Ask.TheVariants as ask
use Rattle.office_types.specs.declared.command.Entry.{Entry}
use Rattle.office_types.specs.declared.reply.Reply.{Reply}
use Rattle.office_types.specs.declared.refusal.Refusal.{Refusal}
use Rattle.office_types.specs.declared.refusal.Refusal.TheVariants.{ClockEnd}
use Rattle.office_machine.specs.Once.{OfficeView}
use Rattle.office_machine.specs.Once as machine
use Rattle.entry_codec.specs.Spelling.{spelling}
use Rattle.meter_journal.specs.declared.fault.OpenFault.{OpenFault}
use Rattle.desk_core.specs.Answers.{Answer, Call}
use Rattle.desk_core.specs.Asked.{asked, entry_of, IsFresh, IsNotKept, Repeats}
use Rattle.desk_core.specs.Calls.{moment_after}
use Rattle.desk_core.specs.Histories.{HasAcceptedHistory}
use Rattle.desk_core.specs.Damage.{IsBroken, OpenFailsOn}
use Rattle.desk_core.specs.Desk.{DeskView, HoldsHistory, StandsFor, GoesOn, IsLast, IsStamped, TellsFault, stale_after}
use Rattle.desk_core.specs.Rereading.{ReadsOn}
use Rattle.desk_core.specs.Numbers.{IsNumber}
use Rattle.desk_core.specs.Serving.{Opened}
use Rattle.desk_core.specs.declared.clock.Clock as clocks
use Rattle.desk_core.specs.declared.fault.DeskFault.{DeskFault}
use Rattle.desk_core.specs.declared.fault.DeskFault.TheVariants as faults

-- ---- the office that answers

-- the disk is left alone, but for a command that the office accepts; that a kept reply leaves it too is said where
-- commands are repeated (`Repeats`)
abbrev pub LeavesDisk : {D : Type 0} → Result Answer DeskFault → Ask → D → D → Type 0
LeavesDisk (Ok answer) (ask.Query query) before after = after ≡ before
LeavesDisk (Ok answer) question before after = is_accepted answer.reply ≡ false → after ≡ before
LeavesDisk (Err (faults.StoreFault number count)) question before after = Unit {0}
LeavesDisk (Err faults.JournalFull) question before after = after ≡ before
LeavesDisk (Err (faults.Broken fault)) question before after = ⊥
LeavesDisk (Err faults.NoMemory) question before after = after ≡ before

-- before the end of time the plain office accepts this command, and no reply is kept under its token, whichever of those
-- offices it is that this one stands for
abbrev pub IsAcceptedAt : ℕ → Ask → OfficeView → Type 0
IsAcceptedAt t question view = IsSomeAnd (asked question) (λ call.
    (t < end_of_time) × ((office : Office) → machine.StandsFor view office
    → IsFresh call office × IsTrue (is_accepted (step_with t call.token call.command office).1)))

-- after `StoreFault` the disk failed in the call, the count is the disk's at the return, and the office accepts the
-- command; after anything else the count is as before
abbrev pub HasStoreReason : Result Answer DeskFault → Ask → OfficeView → ℕ → ℕ → Type 0
HasStoreReason (Err (faults.StoreFault (Some number) count)) question view before after =
    Rose before after × (count ≡ after) × IsAcceptedAt (moment_after number view.records.last) question view
HasStoreReason (Err (faults.StoreFault None count)) question view before after = ⊥
HasStoreReason (Ok answer) question view before after = after ≡ before
HasStoreReason (Err faults.JournalFull) question view before after = after ≡ before
HasStoreReason (Err (faults.Broken fault)) question view before after = ⊥
HasStoreReason (Err faults.NoMemory) question view before after = after ≡ before

-- the ask is a command before the end of time without a token that is kept, and its frame, with the gate behind it,
-- would end past the limit
abbrev pub PassesLimit : {D C : Type 0} → ℕ → DeskView D C → Ask → Type 0
PassesLimit t desk question = IsSomeAnd (asked question) (λ call.
    (t < end_of_time) × IsNotKept call desk.office
    × (desk.limit < desk.gate + 6 + length (spelling (entry_of t call))))

-- the kept reply is given again, if any answer is given: memory may be wanting
abbrev pub IsAgain : KeptReply → Result Answer DeskFault → Type 0
IsAgain one (Ok answer) = answer.reply ≡ Ok one.reply
IsAgain one (Err fault) = fault ≡ faults.NoMemory

-- the reply is this plain office's to an ask at this moment, and the office in memory stands for what it becomes
abbrev pub RepliesTo : ℕ → Ask → Office → Result Reply Refusal → OfficeView → Type 0
RepliesTo t (ask.Query query) plain reply view = (reply ≡ answer t query plain) × machine.StandsFor view plain
RepliesTo t question plain reply view = IsSomeAnd (asked question) (λ call.
    (reply ≡ (step_with t call.token call.command plain).1)
    × machine.StandsFor view (step_with t call.token call.command plain).0)

-- An answer in time is that reply. If there is none, the office in memory stands for the same plain office; after
-- `StoreFault` nothing is said, since the journal is opened again before the next call.
abbrev pub RepliesInTime : ℕ → Ask → Office → Result Answer DeskFault → OfficeView → Type 0
RepliesInTime t question plain (Ok said) view = RepliesTo t question plain said.reply view
RepliesInTime t question plain (Err (faults.StoreFault number count)) view = Unit {0}
RepliesInTime t question plain (Err faults.JournalFull) view = machine.StandsFor view plain
RepliesInTime t question plain (Err (faults.Broken fault)) view = Unit {0}
RepliesInTime t question plain (Err faults.NoMemory) view = machine.StandsFor view plain

-- the answer is that the clock has ended at this moment
abbrev pub IsClockEnd : ℕ → Result Answer DeskFault → Type 0
IsClockEnd t (Ok answer) = answer.reply ≡ Err (ClockEnd t)
IsClockEnd t (Err fault) = ⊥

-- each image of the journal file has this history; of a command it may have this history with its entry at this moment
-- at the end
abbrev pub KeepsOrAdds : ℕ → Ask → List Entry → State → Type 0
KeepsOrAdds t question before s = (image : List ℕ) → IsImage s.journal image
    → HasAcceptedHistory before image
    ⊎ IsSomeAnd (asked question) (λ call. HasAcceptedHistory (before ++ entry_of t call ∷ []) image)

-- A command that the office accepts, and under whose token no reply is kept, is answered once two syncs or more of the
-- journal were done, the last of them after each write to the journal.
abbrev pub IsSyncedFirst : Tally → Tally → Ask → OfficeView → Result Answer DeskFault → Type 0
IsSyncedFirst old new question view (Ok answer) =
    IfSome (asked question) (λ call. IsNotKept call view → IsTrue (is_accepted answer.reply) → IsDurable old new)
IsSyncedFirst old new question view (Err fault) = Unit {0}

-- what a call tells of the office that answers it, where the clock's last number is then this
pub record HasCauses {D C : Type 0} (d : disks.Ghosts D) (k : clocks.Ghosts C) (office : DeskView D C)
    (question : Ask)
    (said : Result Answer DeskFault) (new : DeskView D C) : Type 0 where
  -- the clock is asked once
  pub once : k.count new.clock ≡ min (k.count office.clock + 1) (2 ^ 64 - 1)
  pub quiet : LeavesDisk said question office.disk new.disk
  -- a crash at any moment of the call leaves the history that the office is after, or that and the command's entry
  pub inside : IsTrue d.honest → (before : List Entry) → HoldsHistory d before office
      → KeepsTo d office.disk new.disk
      (KeepsOrAdds (moment_after (k.last new.clock) office.office.records.last) question before)
  -- on every disk
  pub durable : IsSyncedFirst (d.tally office.disk) (d.tally new.disk) question office.office said
  pub reason : HasStoreReason said question office.office (d.fault_count office.disk) (d.fault_count new.disk)
  -- On every disk, before the end of time, the reply is that of each plain office that the one in memory stands for,
  -- and it stands for what that becomes.
  pub replies : (plain : Office) → machine.StandsFor office.office plain
      → moment_after (k.last new.clock) office.office.records.last < end_of_time
      → RepliesInTime (moment_after (k.last new.clock) office.office.records.last) question plain said new.office
  -- from the end of time on this is the answer to every ask
  pub ended : end_of_time ≤ moment_after (k.last new.clock) office.office.records.last
      → IsClockEnd (moment_after (k.last new.clock) office.office.records.last) said
  -- A command that is repeated with its token, before the end of time, gets the reply that it got first, and nothing is
  -- written. The kept replies follow from the history alone, so this holds after a crash and an opening again too.
  pub repeats : (before : List Entry) (hold : HoldsHistory d before office) (one : KeptReply)
      → Repeats question hold.office.plain one
      → moment_after (k.last new.clock) office.office.records.last < end_of_time
      → IsAgain one said × (new.disk ≡ office.disk)
  -- if the frame would pass the limit, the answer is `JournalFull`, or out of memory; `JournalFull` comes in no other case
  pub full : PassesLimit (moment_after (k.last new.clock) office.office.records.last) office question
      → (said ≡ Err faults.JournalFull) ⊎ (said ≡ Err faults.NoMemory)
  pub full_alone : said ≡ Err faults.JournalFull
      → PassesLimit (moment_after (k.last new.clock) office.office.records.last) office question

-- ---- opening again

-- why it could not be opened again, in the words of a call: where the disk failed, and only there, by a fault of the
-- store
abbrev pub IsUnopened : {D : Type 0} → disks.Ghosts D → D → D → Result Answer DeskFault → Type 0
IsUnopened d old new (Err (faults.StoreFault None count)) =
    Rose (d.fault_count old) (d.fault_count new) × (count ≡ d.fault_count new)
IsUnopened d old new (Err (faults.Broken fault)) =
    IsBroken fault × (IsTrue d.tells → OpenFailsOn fault (d.state old))
    × (d.fault_count new ≡ d.fault_count old)
IsUnopened d old new (Err faults.NoMemory) = d.fault_count new ≡ d.fault_count old
IsUnopened d old new (Err (faults.StoreFault (Some number) count)) = ⊥
IsUnopened d old new (Err faults.JournalFull) = ⊥
IsUnopened d old new (Ok answer) = ⊥

module _ {D C : Type 0} (d : disks.Ghosts D) where
  -- The journal was opened again, and read on.
  pub record Reopens (old office : DeskView D C) : Type 0 where
    pub reads : ReadsOn d old.disk office
    pub clock : office.clock ≡ old.clock
    pub limit : office.limit ≡ old.limit
    pub opened_at : office.opened_at ≡ old.opened_at

  -- the office that answers a call: that of the desk, and of a stale desk the one that is opened again
  abbrev pub IsOffice : DeskView D C → DeskView D C → Type 0
  IsOffice old office = ((old.stale ≡ false) × (office ≡ old)) ⊎ ((old.stale ≡ true) × Reopens old office)

  -- no office answers a call of a stale desk: its journal could not be opened again, and the clock is not asked
  pub record Unopened (old new : DeskView D C) (said : Result Answer DeskFault) : Type 0 where
    pub is_stale : old.stale ≡ true
    pub why : IsUnopened d old.disk new.disk said
    pub clock : new.clock ≡ old.clock
    pub writes : WritesNothing d old.disk new.disk
    pub any_moment : IsTrue d.honest → KeepsTo d old.disk new.disk (Narrower (d.state old.disk))
    pub limit : new.limit ≡ old.limit
    pub later : d.fault_count old.disk ≤ d.fault_count new.disk

-- ---- a call

-- What a call does. If the desk stood for a list of calls, it now stands for it with this call at its end. The desk itself
-- answers, or, if it was stale, the one that was opened again, if it could be.
pub record Submits {D C : Type 0} (d : disks.Ghosts D) (k : clocks.Ghosts C) (old : DeskView D C) (question : Ask)
    (said : Result Answer DeskFault) (new : DeskView D C) : Type 0 where
  pub stands : (opened : Opened) (calls : List Call) → StandsFor d opened calls old
      → GoesOn d opened (calls ++ record { ask = question; said = said } ∷ []) old.disk new
  pub causes : Unopened d old new said
      ⊎ ((office : DeskView D C) × IsOffice d old office × HasCauses d k office question said new)
  pub not_broken : IsTrue d.honest → (fault : OpenFault) → said ≡ Err (faults.Broken fault) → ⊥
  pub number : k.count new.clock < 2 ^ 64 - 1 → IsNumber (k.told old.clock) (k.told new.clock) said
  pub last_told : IsLast (k.last new.clock) said
  pub stamped : IsStamped said new.gate (d.moment new.disk)
  pub cause : TellsFault said (d.fault_count old.disk) (d.fault_count new.disk)
  pub stale : new.stale ≡ stale_after old.stale said
  -- a desk grows stale only where the disk failed
  pub grows_stale : new.stale ≡ true → (old.stale ≡ true) ⊎ Rose (d.fault_count old.disk) (d.fault_count new.disk)
  pub limit : new.limit ≡ old.limit
  pub opened_at : new.opened_at ≡ old.opened_at
  pub clock_later : k.count old.clock ≤ k.count new.clock
  pub disk_later : d.fault_count old.disk ≤ d.fault_count new.disk
