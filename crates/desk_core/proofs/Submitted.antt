-- What the answer to an ask tells of its call.
use Rattle.std.proofs.Common.{◌≡◌, ◌⊎◌, inl, inr, ⊎_elim, ℕ, ◌+◌, ◌-◌, ◌^◌, ◌<◌, ◌≤◌, min, Bool, true, false, ◌&&◌, length, List, [], ◌∷◌, ◌++◌, Some, None, Option, Result, Ok, Err}
use Rattle.std.proofs.Common.{refl, sym, ap, ◌∙◌, subst, arith}
use Rattle.std.specs.Prelude.{IsTrue, IsSomeAnd}
use Rattle.std.proofs.lemmas.Option.{same_Some}
use Rattle.std.specs.Io.KnownBytes.{Appends}
use Rattle.std.proofs.lemmas.Bool.{both_ways}
use Rattle.office_base.specs.Faults.{Rose}
use Rattle.moments.specs.Time.{end_of_time}
use Rattle.disk_core.specs.declared.disk.Disk as disks
use Rattle.disk_core.specs.Moments.{KeepsTo}
use Rattle.disk_core.proofs.Laws.{DiskLaws}
use Rattle.disk_core.proofs.Time.{started, weakened}
use Rattle.plain_office.specs.Office.{Office, KeptReply}
use Rattle.plain_office.specs.Once.{kept_for, step_with}
use Rattle.plain_office.specs.Step.{is_accepted}
use Rattle.plain_office.specs.Run.{is_new, run}
use Rattle.office_types.specs.declared.command.Ask.{Ask}
use Rattle.office_types.specs.declared.command.Ask.TheVariants as ask
use Rattle.office_types.specs.declared.command.Command.{Command}
use Rattle.office_types.specs.declared.command.Entry.{Entry}
use Rattle.office_types.specs.declared.reply.Reply.{Reply}
use Rattle.office_types.specs.declared.refusal.Refusal.{Refusal}
use Rattle.office_types.specs.Tokens.{takes_token}
use Rattle.office_types.specs.Commands.{same_command}
use Rattle.office_types.proofs.Sameness.{same_self}
use Rattle.office_machine.specs.Once.{OfficeView}
use Rattle.desk_core.specs.declared.clock.Clock as clocks
use Rattle.desk_core.specs.declared.fault.DeskFault.{DeskFault}
use Rattle.desk_core.specs.declared.fault.DeskFault.TheVariants as faults
use Rattle.desk_core.specs.Answers.{Answer}
use Rattle.desk_core.specs.Asked.{Asked, asked, entry_of, IsNotKept, Repeats}
use Rattle.desk_core.specs.Calls.{moment_after}
use Rattle.office_machine.specs.Once as machine
use Rattle.desk_core.specs.Submitting.{RepliesInTime, LeavesDisk, HasStoreReason, IsAcceptedAt, PassesLimit, IsAgain, IsClockEnd, KeepsOrAdds, HasCauses, IsOffice, IsUnopened}
use Rattle.desk_core.specs.Desk.{DeskView, HoldsTail, HoldsHistory, IsReady, IsLast, IsStamped, TellsFault, stale_after}
use Rattle.desk_core.specs.Offices.{Tail, from_first, with_entries}
use Rattle.desk_core.specs.Answering.{call_time, AddsOrNot, CarriesOut, StoreFails, IsDoneAt, HasFailed, AnswersInTime, AnswersAt, AnswersAsk}
use Rattle.plain_office.proofs.Runs.{Token, step_kept, run_more}
use Rattle.meter_journal.specs.History.{header, HasEntries, BeforeOrAfter}
use Rattle.desk_core.specs.Numbers.{IsNumber}
use Rattle.entry_codec.specs.Spelling.{spelling}
use Rattle.desk_core.proofs.Synced.{synced_so}
use Rattle.desk_core.proofs.Adding.{asked_and}
use Rattle.desk_core.proofs.Offices.{fresh_in, run_is, run_on}
use Rattle.desk_core.proofs.OneCallMore.{some_and}
use Rattle.desk_core.specs.Histories.{HasAcceptedHistory}
use Rattle.desk_core.specs.Reading.{StartsOn, IsOpenable}
use Rattle.desk_core.specs.Serving.{KeepsSlots}
use Rattle.desk_core.proofs.Openable.{starts_same, holds_openable}
use Rattle.desk_core.proofs.Serving.{rest_image, some_run}

accepted_not : (reply : Result Reply Refusal) → IsTrue (is_accepted reply) → is_accepted reply ≡ false → ⊥
accepted_not reply is not = both_ways (is_accepted reply) not is

-- what is accepted and new is accepted
both_not : (new accepted : Bool) → IsTrue (new && accepted) → accepted ≡ false → ⊥
both_not true accepted is not = both_ways accepted not is
both_not false accepted is not = both_ways false refl is

-- what is not new is not both
both_new : (new accepted : Bool) → new ≡ false → IsTrue (new && accepted) → ⊥
both_new false accepted old is = both_ways false refl is
both_new true accepted old is = both_ways true old refl

module _ {D : Type 0} {C : Type 0} (d : disks.Ghosts D)
    (t number : ℕ) (question : Ask) (office : Office) (before : Tail) (old new : DeskView D C) where
  abbrev Kept : Result Answer DeskFault → Type 0
  Kept said = AnswersInTime d (call_time t number) question office before old new said

  abbrev Told : Result Answer DeskFault → Type 0
  Told said = AnswersAt d (call_time t number) question office before old new said

  -- ---- the answer's numbers

  pub stamped : (said : Result Answer DeskFault) → Told said → IsStamped said new.gate (d.moment new.disk)
  stamped (Ok said) (inl in_time) = (in_time.1.0.position, in_time.1.0.disk_moment)
  stamped (Ok said) (inr past) = (past.1.0.position, past.1.0.disk_moment)
  stamped (Err fault) asked = tt

  told_is : (said : Answer) → Told (Ok said) → said.told ≡ number
  told_is said (inl in_time) = in_time.1.0.told
  told_is said (inr past) = past.1.0.told

  -- which fault came, and in time
  in_time_of : (fault : DeskFault) → Told (Err fault) → (t < end_of_time) × Kept (Err fault)
  in_time_of fault (inl in_time) = in_time
  in_time_of fault (inr past) = absurd past.1

  pub numbered : (a b : Option (List ℕ)) (said : Result Answer DeskFault) → Appends a b (number ∷ []) → Told said → IsNumber a b said
  numbered a b (Ok said) more asked = (number ∷ [], ap (λ (n : ℕ). n ∷ []) (sym (told_is said asked)), more)
  numbered a b (Err (faults.StoreFault (Some told) count)) more asked =
      (number ∷ [], ap (λ (n : ℕ). n ∷ []) (sym (in_time_of (faults.StoreFault (Some told) count) asked).1.0), more)
  numbered a b (Err (faults.StoreFault None count)) more asked = absurd (in_time_of (faults.StoreFault None count) asked).1
  numbered a b (Err faults.JournalFull) more asked = (number ∷ [], (number, refl), more)
  numbered a b (Err (faults.Broken fault)) more asked = absurd (in_time_of (faults.Broken fault) asked).1
  numbered a b (Err faults.NoMemory) more asked = (number ∷ [], inr (number, refl), more)

  pub last_told : (last : ℕ) (said : Result Answer DeskFault) → last ≡ number → Told said → IsLast last said
  last_told last (Ok said) is asked = told_is said asked ∙ sym is
  last_told last (Err (faults.StoreFault (Some told) count)) is asked = (in_time_of (faults.StoreFault (Some told) count) asked).1.0 ∙ sym is
  last_told last (Err (faults.StoreFault None count)) is asked = tt
  last_told last (Err faults.JournalFull) is asked = tt
  last_told last (Err (faults.Broken fault)) is asked = tt
  last_told last (Err faults.NoMemory) is asked = tt

  -- ---- the disk

  -- ---- causes

  pub ended_so : (said : Result Answer DeskFault) → end_of_time ≤ t → Told said → IsClockEnd t said
  ended_so said past (inl in_time) = absurd (omega (arith, past, in_time.0))
  ended_so (Ok said) past (inr so) = so.1.1
  ended_so (Err fault) past (inr so) = so.1

  full_at : (said : Result Answer DeskFault) → said ≡ Err faults.JournalFull → Told said → PassesLimit t old question
  full_at said is asked = (in_time_of faults.JournalFull (subst Told is asked)).1.0

  pub full_alone : (said : Result Answer DeskFault) → Told said → said ≡ Err faults.JournalFull → PassesLimit t old question
  full_alone said asked is = full_at said is asked

-- ---- the disk, and causes in it

module _ {D : Type 0} {C : Type 0} (d : disks.Ghosts D)
    (t number : ℕ) (office : Office) (before : Tail) (old new : DeskView D C) where
  carried_leaves : (call : Asked) (said : Answer) → CarriesOut d t call office before old new said.reply → is_accepted said.reply ≡ false → new.disk ≡ old.disk
  carried_leaves call said is not = ⊎_elim (λ grew. absurd (both_not (is_new call.token office) (is_accepted said.reply) grew.0 not)) (λ stayed. stayed.1.disk) is.grows

  done_leaves : (question : Ask) (said : Answer) → IsDoneAt d t question office before old new said.reply → LeavesDisk (Ok said) question old.disk new.disk
  done_leaves (ask.Command command) said is = λ not. carried_leaves _ said is not
  done_leaves (ask.Once token command) said is = λ not. carried_leaves _ said is not
  done_leaves (ask.Query query) said is = is.1.disk

  ended_leaves : (question : Ask) (said : Answer) → new.disk ≡ old.disk → LeavesDisk (Ok said) question old.disk new.disk
  ended_leaves (ask.Command command) said same = λ not. same
  ended_leaves (ask.Once token command) said same = λ not. same
  ended_leaves (ask.Query query) said same = same

  kept_leaves : (question : Ask) (said : Result Answer DeskFault) → AnswersInTime d (call_time t number) question office before old new said → LeavesDisk said question old.disk new.disk
  kept_leaves question (Ok said) keeps = done_leaves question said keeps.1
  kept_leaves question (Err (faults.StoreFault told count)) keeps = tt
  kept_leaves question (Err faults.JournalFull) keeps = keeps.1.disk
  kept_leaves question (Err (faults.Broken fault)) keeps = absurd keeps
  kept_leaves question (Err faults.NoMemory) keeps = keeps.disk

  pub leaves : (question : Ask) (said : Result Answer DeskFault) → AnswersAt d (call_time t number) question office before old new said → LeavesDisk said question old.disk new.disk
  leaves question said (inl in_time) = kept_leaves question said in_time.1
  leaves question (Ok said) (inr past) = ended_leaves question said past.1.2.disk
  leaves question (Err fault) (inr past) = absurd past.1

  -- but where it failed, the disk's count of faults stands still
  same_count : new.disk ≡ old.disk → d.fault_count new.disk ≡ d.fault_count old.disk
  same_count same = ap d.fault_count same

  done_quiet : (question : Ask) (said : Answer) → IsDoneAt d t question office before old new said.reply → d.fault_count new.disk ≡ d.fault_count old.disk
  done_quiet (ask.Command command) said is = ⊎_elim (λ grew. grew.1.quiet) (λ stayed. same_count stayed.1.disk) is.grows
  done_quiet (ask.Once token command) said is = ⊎_elim (λ grew. grew.1.quiet) (λ stayed. same_count stayed.1.disk) is.grows
  done_quiet (ask.Query query) said is = same_count is.1.disk

  answered_quiet : (question : Ask) (said : Answer) → AnswersAt d (call_time t number) question office before old new (Ok said) → d.fault_count new.disk ≡ d.fault_count old.disk
  answered_quiet question said (inl in_time) = done_quiet question said in_time.1.1
  answered_quiet question said (inr past) = same_count past.1.2.disk

  failed_reason : (question : Ask) → t < end_of_time → HasFailed d t question office before old new → Rose (d.fault_count old.disk) (d.fault_count new.disk) × IsAcceptedAt t question old.office
  failed_reason (ask.Command command) lt fails = (fails.rose, (lt, fails.accepted))
  failed_reason (ask.Once token command) lt fails = (fails.rose, (lt, fails.accepted))
  failed_reason (ask.Query query) lt fails = absurd fails

  pub reason : (question : Ask) (said : Result Answer DeskFault) → t ≡ moment_after number old.office.records.last → AnswersAt d (call_time t number) question office before old new said
      → HasStoreReason said question old.office (d.fault_count old.disk) (d.fault_count new.disk)
  reason question (Ok said) at answers = answered_quiet question said answers
  reason question (Err (faults.StoreFault (Some told) count)) at answers =
      let kept = in_time_of d t number question office before old new (faults.StoreFault (Some told) count) answers in
      let why = failed_reason question kept.0 kept.1.2 in
      (why.0, kept.1.1, subst (λ (m : ℕ). IsAcceptedAt m question old.office) (at ∙ ap (λ (n : ℕ). moment_after n old.office.records.last) (sym kept.1.0)) why.1)
  reason question (Err (faults.StoreFault None count)) at answers =
      absurd (in_time_of d t number question office before old new (faults.StoreFault None count) answers).1
  reason question (Err faults.JournalFull) at answers =
      same_count (in_time_of d t number question office before old new faults.JournalFull answers).1.1.disk
  reason question (Err (faults.Broken fault)) at answers =
      absurd (in_time_of d t number question office before old new (faults.Broken fault) answers).1
  reason question (Err faults.NoMemory) at answers =
      same_count (in_time_of d t number question office before old new faults.NoMemory answers).1.disk

  -- ---- a further call

  done_holds : (question : Ask) (said : Answer) → IsDoneAt d t question office before old new said.reply → (entries : List Entry) × HoldsTail d (with_entries before entries) new
  done_holds (ask.Command command) said is = ⊎_elim (λ grew. (before.entries ++ _ ∷ [], grew.1.holds)) (λ stayed. (before.entries, stayed.1.holds)) is.grows
  done_holds (ask.Once token command) said is = ⊎_elim (λ grew. (before.entries ++ _ ∷ [], grew.1.holds)) (λ stayed. (before.entries, stayed.1.holds)) is.grows
  done_holds (ask.Query query) said is = (before.entries, is.1.holds)

  kept_holds : (question : Ask) (said : Result Answer DeskFault) → stale_after false said ≡ false → AnswersInTime d (call_time t number) question office before old new said
      → (entries : List Entry) × HoldsTail d (with_entries before entries) new
  kept_holds question (Ok said) fine keeps = done_holds question said keeps.1
  kept_holds question (Err (faults.StoreFault told count)) fine keeps = absurd (both_ways true fine refl)
  kept_holds question (Err faults.JournalFull) fine keeps = (before.entries, keeps.1.holds)
  kept_holds question (Err (faults.Broken fault)) fine keeps = absurd keeps
  kept_holds question (Err faults.NoMemory) fine keeps = (before.entries, keeps.holds)

  pub ready_on : (question : Ask) (said : Result Answer DeskFault) → stale_after false said ≡ false → AnswersAt d (call_time t number) question office before old new said
      → (entries : List Entry) × HoldsTail d (with_entries before entries) new
  ready_on question said fine (inl in_time) = kept_holds question said fine in_time.1
  ready_on question (Ok said) fine (inr past) = (before.entries, past.1.2.holds)
  ready_on question (Err fault) fine (inr past) = absurd past.1

-- ---- it can be opened again

module _ {D : Type 0} {C : Type 0} (d : disks.Ghosts D) (tells : IsTrue d.honest)
    (t number : ℕ) (before : Tail) (old new : DeskView D C) (hold : HoldsTail d before old) (starts : StartsOn (d.state old.disk) before.office before.head) where
  abbrev Openable : Type 0
  Openable = IsOpenable (d.state new.disk)

  -- slots that are as they were
  pub starts_on : KeepsSlots (d.state old.disk) (d.state new.disk) → StartsOn (d.state new.disk) before.office before.head
  starts_on same = starts_same (d.state old.disk) (d.state new.disk) before.office before.head same.0 same.1 starts

  holds_on : (entries : List Entry) → HoldsTail d (with_entries before entries) new → KeepsSlots (d.state old.disk) (d.state new.disk) → Openable
  holds_on entries holds same = holds_openable d new tells (with_entries before entries) holds (starts_on same)

  command_openable : (call : Asked) → StoreFails d hold.office.plain before (entry_of t call) old new → Openable
  command_openable call fails =
      let entry = entry_of t call in
      let now = (fails.run tells).now in
      record {
        office = before.office;
        head = before.head;
        starts = starts_on (now.slot0, now.slot1);
        tails = λ image is. ⊎_elim
            (λ (e : HasEntries before.head before.entries image). (before.entries, e, (hold.office.plain, hold.office.is_run)))
            (λ (e : HasEntries before.head (before.entries ++ entry ∷ []) image).
            (before.entries ++ entry ∷ [], e, (fails.next.0, run_on (Some before.office) before.entries entry hold.office.plain fails.next.0 hold.office.is_run fails.next.1)))
            (now.journal image is);
      }

  failed_openable : (question : Ask) → HasFailed d t question hold.office.plain before old new → Openable
  failed_openable question fails = some_and (asked question) (λ call. StoreFails d hold.office.plain before (entry_of t call) old new) command_openable fails

  pub openable_on : (question : Ask) (said : Result Answer DeskFault) → AnswersAt d (call_time t number) question hold.office.plain before old new said
      → KeepsSlots (d.state old.disk) (d.state new.disk) → Openable
  openable_on question (Ok said) answers same =
      let on = ready_on d t number hold.office.plain before old new question (Ok said) refl answers in
      holds_on on.0 on.1 same
  openable_on question (Err (faults.StoreFault (Some told) count)) answers same =
      failed_openable question (in_time_of d t number question hold.office.plain before old new (faults.StoreFault (Some told) count) answers).1.2
  openable_on question (Err (faults.StoreFault None count)) answers same =
      absurd (in_time_of d t number question hold.office.plain before old new (faults.StoreFault None count) answers).1
  openable_on question (Err faults.JournalFull) answers same =
      let on = ready_on d t number hold.office.plain before old new question (Err faults.JournalFull) refl answers in
      holds_on on.0 on.1 same
  openable_on question (Err (faults.Broken fault)) answers same =
      absurd (in_time_of d t number question hold.office.plain before old new (faults.Broken fault) answers).1
  openable_on question (Err faults.NoMemory) answers same =
      let on = ready_on d t number hold.office.plain before old new question (Err faults.NoMemory) refl answers in
      holds_on on.0 on.1 same

-- ---- the slots stay

module _ {D : Type 0} {C : Type 0} (d : disks.Ghosts D) (tells : IsTrue d.honest)
    (t number : ℕ) (office : Office) (before : Tail) (old new : DeskView D C) where
  abbrev Stayed : Type 0
  Stayed = KeepsSlots (d.state old.disk) (d.state new.disk)

  same_slots : new.disk ≡ old.disk → Stayed
  same_slots same = (ap (λ (z : D). (d.state z).slot0) same, ap (λ (z : D). (d.state z).slot1) same)

  added_slots : (entry : Entry) → AddsOrNot d before entry old.disk new.disk → Stayed
  added_slots entry run = (run.now.slot0, run.now.slot1)

  carried_slots : (call : Asked) (said : Answer) → CarriesOut d t call office before old new said.reply → Stayed
  carried_slots call said is = ⊎_elim (λ grew. added_slots (entry_of t call) (grew.1.run tells)) (λ stayed. same_slots stayed.1.disk) is.grows

  done_slots : (question : Ask) (said : Answer) → IsDoneAt d t question office before old new said.reply → Stayed
  done_slots (ask.Command command) said is = carried_slots _ said is
  done_slots (ask.Once token command) said is = carried_slots _ said is
  done_slots (ask.Query query) said is = same_slots is.1.disk

  failed_slots : (question : Ask) → HasFailed d t question office before old new → Stayed
  failed_slots question fails = some_and (asked question) (λ call. StoreFails d office before (entry_of t call) old new) (λ call one. added_slots (entry_of t call) (one.run tells)) fails

  kept_slots : (question : Ask) (said : Result Answer DeskFault) → AnswersInTime d (call_time t number) question office before old new said → Stayed
  kept_slots question (Ok said) keeps = done_slots question said keeps.1
  kept_slots question (Err (faults.StoreFault (Some told) count)) keeps = failed_slots question keeps.2
  kept_slots question (Err (faults.StoreFault None count)) keeps = absurd keeps
  kept_slots question (Err faults.JournalFull) keeps = same_slots keeps.1.disk
  kept_slots question (Err (faults.Broken fault)) keeps = absurd keeps
  kept_slots question (Err faults.NoMemory) keeps = same_slots keeps.disk

  pub slots_stay : (question : Ask) (said : Result Answer DeskFault) → AnswersAt d (call_time t number) question office before old new said → Stayed
  slots_stay question said (inl in_time) = kept_slots question said in_time.1
  slots_stay question (Ok said) (inr past) = same_slots past.1.2.disk
  slots_stay question (Err fault) (inr past) = absurd past.1

-- ---- what a crash inside the call leaves

module _ {D C : Type 0} {d : disks.Ghosts D} (laws : DiskLaws d)
    (tells : IsTrue d.honest) (t number : ℕ) (before : List Entry) (old new : DeskView D C) (hold : HoldsHistory d before old) where
  abbrev Inside : Ask → Type 0
  Inside question = KeepsTo d old.disk new.disk (KeepsOrAdds t question before)

  here : (question : Ask) → KeepsOrAdds t question before (d.state old.disk)
  here question = λ image is. inl (rest_image (d.state old.disk) old.gate before hold.office.plain (hold.at_rest tells) (run_is before hold.office.is_run) image is)

  stays_inside : (question : Ask) → new.disk ≡ old.disk → Inside question
  stays_inside question same = subst (λ (z : D). KeepsTo d old.disk z (KeepsOrAdds t question before)) (sym same)
      (started d old.disk (KeepsOrAdds t question before) (laws.only_now old.disk) (here question))

  module _ (question : Ask) (call : Asked) (asks : asked question ≡ Some call) where
    abbrev e : Entry
    e = entry_of t call

    adds_inside : (more : Office) → run (before ++ e ∷ []) ≡ Some more → KeepsTo d old.disk new.disk (BeforeOrAfter header before e (d.state old.disk)) → Inside question
    adds_inside more is_more ran = weakened (KeepsOrAdds t question before) ran (λ s both image is. ⊎_elim
        (λ (old_one : HasEntries header before image). inl (record { entries = old_one; accepted = some_run before hold.office.plain (run_is before hold.office.is_run) }))
        (λ (new_one : HasEntries header (before ++ e ∷ []) image).
        inr (asked_and question call (λ c. HasAcceptedHistory (before ++ entry_of t c ∷ []) image) asks
        (record { entries = new_one; accepted = some_run (before ++ e ∷ []) more is_more })))
        (both.journal image is))

    carried_inside : (said : Answer) → CarriesOut d t call hold.office.plain (from_first before) old new said.reply → Inside question
    carried_inside said is =
        ⊎_elim (λ grew. adds_inside grew.1.holds.office.plain (run_is (before ++ e ∷ []) grew.1.holds.office.is_run) (grew.1.run tells))
        (λ stayed. stays_inside question stayed.1.disk) is.grows

    command_inside : StoreFails d hold.office.plain (from_first before) e old new → Inside question
    command_inside fails =
        adds_inside fails.next.0 (run_more before e hold.office.plain fails.next.0 (run_is before hold.office.is_run) fails.next.1) (fails.run tells)

  done_inside : (question : Ask) (said : Answer) → IsDoneAt d t question hold.office.plain (from_first before) old new said.reply → Inside question
  done_inside (ask.Command command) said is = carried_inside (ask.Command command) _ refl said is
  done_inside (ask.Once token command) said is = carried_inside (ask.Once token command) _ refl said is
  done_inside (ask.Query query) said is = stays_inside (ask.Query query) is.1.disk

  failed_inside : (question : Ask) → HasFailed d t question hold.office.plain (from_first before) old new → Inside question
  failed_inside (ask.Command command) fails = command_inside (ask.Command command) _ refl fails
  failed_inside (ask.Once token command) fails = command_inside (ask.Once token command) _ refl fails
  failed_inside (ask.Query query) fails = absurd fails

  kept_inside : (question : Ask) (said : Result Answer DeskFault) → AnswersInTime d (call_time t number) question hold.office.plain (from_first before) old new said → Inside question
  kept_inside question (Ok said) keeps = done_inside question said keeps.1
  kept_inside question (Err (faults.StoreFault (Some told) count)) keeps = failed_inside question keeps.2
  kept_inside question (Err (faults.StoreFault None count)) keeps = absurd keeps
  kept_inside question (Err faults.JournalFull) keeps = stays_inside question keeps.1.disk
  kept_inside question (Err (faults.Broken fault)) keeps = absurd keeps
  kept_inside question (Err faults.NoMemory) keeps = stays_inside question keeps.disk

  pub inside_of : (question : Ask) (said : Result Answer DeskFault) → AnswersAt d (call_time t number) question hold.office.plain (from_first before) old new said → Inside question
  inside_of question said (inl in_time) = kept_inside question said in_time.1
  inside_of question (Ok said) (inr past) = stays_inside question past.1.2.disk
  inside_of question (Err fault) (inr past) = absurd past.1

-- ---- a command that is repeated with its token

module _ (question : Ask) (office : Office) (one : KeptReply) (again : Repeats question office one) where
  abbrev call : Asked
  call = again.call

  -- its token is one that it may carry
  takes : takes_token call.command ≡ true
  takes = by question again.is_asked where
    carried : (b : Bool) (command : Command) (token : List ℕ) → takes_token command ≡ b → asked (ask.Once token command) ≡ Some call → takes_token call.command ≡ true
    carried true command token takes is = subst (λ (c : Asked). takes_token c.command ≡ true) (same_Some _ _ is) takes
    carried false command token takes is = absurd (none_kept (sym (ap (λ (c : Asked). c.token) (same_Some _ _ is)) ∙ rw takes refl))
      where
        none_kept : call.token ≡ None → ⊥
        none_kept none = let e : kept_for None office ≡ Some one = subst (λ (token : Token). kept_for token office ≡ Some one) none again.kept in absurd cc

    by : (q : Ask) → asked q ≡ Some call → takes_token call.command ≡ true
    by (ask.Command command) is =
        let e : kept_for None office ≡ Some one = subst (λ (token : Token). kept_for token office ≡ Some one) (sym (ap (λ (c : Asked). c.token) (same_Some _ _ is))) again.kept in
        absurd cc
    by (ask.Once token command) is = carried (takes_token command) command token refl is
    by (ask.Query query) is = absurd cc

  same : same_command one.command call.command ≡ true
  same = subst (λ (c : Command). same_command c call.command ≡ true) again.same (same_self call.command takes)

  replied : (t : ℕ) → (step_with t call.token call.command office).1 ≡ Ok one.reply
  replied t = ap (λ (x : Office × Result Reply Refusal). x.1) (step_kept t call.token call.command office one again.kept) ∙ rw same refl

  not_new : is_new call.token office ≡ false
  not_new = rw again.kept refl

module _ {D C : Type 0} (d : disks.Ghosts D) (t number : ℕ) (before : Tail) (old new : DeskView D C) (hold : HoldsTail d before old)
    (question : Ask) (one : KeptReply) (again : Repeats question hold.office.plain one) where
  abbrev plain : Office
  plain = hold.office.plain

  abbrev repeat : Asked
  repeat = again.call

  not_fresh : kept_for repeat.token plain ≡ None → ⊥
  not_fresh none = let e : Some one ≡ None = sym again.kept ∙ none in absurd cc

  of_repeat : (P : Asked → Type 0) → IsSomeAnd (asked question) P → P repeat
  of_repeat P is = subst (λ (o : Option Asked). IsSomeAnd o P) again.is_asked is

  carried_as : (q : Ask) → asked q ≡ Some repeat → (reply : Result Reply Refusal) → IsDoneAt d t q plain before old new reply → CarriesOut d t repeat plain before old new reply
  carried_as (ask.Command command) is reply done = subst (λ (c : Asked). CarriesOut d t c plain before old new reply) (same_Some _ _ is) done
  carried_as (ask.Once token command) is reply done = subst (λ (c : Asked). CarriesOut d t c plain before old new reply) (same_Some _ _ is) done
  carried_as (ask.Query query) is reply done = absurd cc

  answered_so : (said : Answer) → CarriesOut d t repeat plain before old new said.reply → IsAgain one (Ok said) × (new.disk ≡ old.disk)
  answered_so said is = (
    is.told ∙ replied question plain one again t,
    ⊎_elim (λ grew. absurd (both_new (is_new repeat.token plain) (is_accepted said.reply) (not_new question plain one again) grew.0)) (λ stayed. stayed.1.disk) is.grows,
  )

  again_by : (said : Result Answer DeskFault) → AnswersInTime d (call_time t number) question plain before old new said → IsAgain one said × (new.disk ≡ old.disk)
  again_by (Ok said) keeps = answered_so said (carried_as question again.is_asked said.reply keeps.1)
  again_by (Err (faults.StoreFault (Some told) count)) keeps =
      absurd (not_fresh ((of_repeat (λ call. StoreFails d plain before (entry_of t call) old new) keeps.2).accepted plain hold.office.stands).0)
  again_by (Err (faults.StoreFault None count)) keeps = absurd keeps
  again_by (Err faults.JournalFull) keeps =
      let passes = of_repeat (λ call. (t < end_of_time) × IsNotKept call old.office × (old.limit < old.gate + 6 + length (spelling (entry_of t call)))) keeps.0 in
      absurd (not_fresh (fresh_in repeat.token old.office plain hold.office.stands passes.1))
  again_by (Err (faults.Broken fault)) keeps = absurd keeps
  again_by (Err faults.NoMemory) keeps = (refl, keeps.disk)

  pub repeated_so : t < end_of_time → (said : Result Answer DeskFault) → AnswersAt d (call_time t number) question plain before old new said → IsAgain one said × (new.disk ≡ old.disk)
  repeated_so lt said (inl in_time) = again_by said in_time.1
  repeated_so lt said (inr past) = absurd (omega (arith, lt, past.0))

-- ---- a call of which the clock told its number

module _ {D C : Type 0} {d : disks.Ghosts D} {number : ℕ} {question : Ask} {old new : DeskView D C} {said : Result Answer DeskFault}
    (asks : AnswersAsk d number question old new said) (ready : IsReady d old) where
  abbrev told : DeskView D C
  told = record old { clock = asks.clock }

  abbrev before : Tail
  before = ready.tail

  abbrev hold : HoldsTail d before told
  hold = record { office = ready.holds.office; end = ready.holds.end; each = ready.holds.each; small = ready.holds.small; limit = ready.holds.limit; at_rest = ready.holds.at_rest }

  abbrev one : AnswersAt d (call_time asks.t number) question hold.office.plain before told new said
  one = asks.answers before hold

  pub stamped_by : IsStamped said new.gate (d.moment new.disk)
  stamped_by = stamped d asks.t number question hold.office.plain before told new said one

  pub numbered_by : (a b : Option (List ℕ)) → Appends a b (number ∷ []) → IsNumber a b said
  numbered_by a b more = numbered d asks.t number question hold.office.plain before told new a b said more one

  pub last_by : IsLast number said
  last_by = last_told d asks.t number question hold.office.plain before told new number said refl one

  slots_by : IsTrue d.honest → KeepsSlots (d.state old.disk) (d.state new.disk)
  slots_by tells = slots_stay d tells asks.t number hold.office.plain before told new question said one

  pub ready_by : stale_after false said ≡ false → IsReady d new
  ready_by fine =
      let on = ready_on d asks.t number hold.office.plain before told new question said fine one in
      record { tail = with_entries before on.0; holds = on.1; takes = ready.takes; starts = λ tells. starts_on d tells asks.t number before told new hold (ready.starts tells) (slots_by tells) }

  pub tells_by : (k : clocks.Ghosts C) → DiskLaws d → k.last new.clock ≡ number
      → k.count new.clock ≡ min (k.count old.clock + 1) (2 ^ 64 - 1)
      → (PassesLimit (moment_after (k.last new.clock) old.office.records.last) old question
      → (said ≡ Err faults.JournalFull) ⊎ (said ≡ Err faults.NoMemory))
      → ((p : Office) → machine.StandsFor old.office p → moment_after (k.last new.clock) old.office.records.last < end_of_time
      → RepliesInTime (moment_after (k.last new.clock) old.office.records.last) question p said new.office)
      → HasCauses d k old question said new
  tells_by k laws last_is once full replies =
      let now_is : asks.t ≡ moment_after (k.last new.clock) old.office.records.last = asks.at ∙ ap (λ (n : ℕ). moment_after n old.office.records.last) (sym last_is) in
      record {
        once = once;
        quiet = leaves d asks.t number hold.office.plain before told new question said one;
        inside = λ tells b holds.
            let other : HoldsHistory d b told = record { office = holds.office; end = holds.end; each = holds.each; small = holds.small; limit = holds.limit; at_rest = holds.at_rest } in
            subst (λ (t : ℕ). KeepsTo d old.disk new.disk (KeepsOrAdds t question b)) now_is
            (inside_of laws tells asks.t number b told new other question said (asks.answers (from_first b) other));
        durable = synced_so d asks.t number before told new hold question said one;
        reason = reason d asks.t number hold.office.plain before told new question said asks.at one;
        ended = subst (λ (t : ℕ). end_of_time ≤ t → IsClockEnd t said) now_is (λ past. ended_so d asks.t number question hold.office.plain before told new said past one);
        repeats = λ b holds first again lt.
            let other : HoldsHistory d b told = record { office = holds.office; end = holds.end; each = holds.each; small = holds.small; limit = holds.limit; at_rest = holds.at_rest } in
            repeated_so d asks.t number (from_first b) told new other question first again (omega (arith, now_is, lt)) said (asks.answers (from_first b) other);
        full = full;
        replies = replies;
        full_alone = subst (λ (t : ℕ). said ≡ Err faults.JournalFull → PassesLimit t old question) now_is
            (full_alone d asks.t number question hold.office.plain before told new said one);
      }

  pub openable_by : IsTrue d.honest → IsOpenable (d.state new.disk)
  openable_by tells = openable_on d tells asks.t number before told new hold (ready.starts tells) question said one (slots_by tells)

-- an office tells the same of a call once it is marked as stale or not
pub marked_causes : {D C : Type 0} (d : disks.Ghosts D) (k : clocks.Ghosts C) (office new : DeskView D C) (question : Ask) (said : Result Answer DeskFault) (stale : Bool)
    → HasCauses d k office question said new → HasCauses d k office question said (record new { stale = stale })
marked_causes d k office new question said stale causes = record {
  once = causes.once;
  quiet = causes.quiet;
  inside = causes.inside;
  durable = causes.durable;
  reason = causes.reason;
  ended = causes.ended;
  repeats = causes.repeats;
  full = causes.full;
  replies = causes.replies;
  full_alone = causes.full_alone;
}

-- a desk that is not stale after a call would not be so had it been fresh before
pub fresh_after : (stale : Bool) (said : Result Answer DeskFault) → stale_after stale said ≡ false → stale_after false said ≡ false
fresh_after stale (Ok answer) fresh = refl
fresh_after stale (Err (faults.StoreFault number count)) fresh = fresh
fresh_after stale (Err faults.JournalFull) fresh = refl
fresh_after stale (Err (faults.Broken fault)) fresh = fresh
fresh_after stale (Err faults.NoMemory) fresh = refl

-- ---- whether the disk failed

-- what the office that answers tells of faults, a call tells
office_told : (said : Result Answer DeskFault) (question : Ask) (view : OfficeView) (before after : ℕ) → HasStoreReason said question view before after → TellsFault said before after
office_told (Ok answer) question view before after told = told
office_told (Err (faults.StoreFault (Some number) count)) question view before after told = (told.0, told.1)
office_told (Err (faults.StoreFault None count)) question view before after told = absurd told
office_told (Err faults.JournalFull) question view before after told = told
office_told (Err (faults.Broken fault)) question view before after told = absurd told
office_told (Err faults.NoMemory) question view before after told = told

-- an office is opened again without a fault of the disk
office_quiet : {D C : Type 0} (d : disks.Ghosts D) (old office : DeskView D C) → IsOffice d old office → d.fault_count office.disk ≡ d.fault_count old.disk
office_quiet d old office (inl own) = ap (λ (x : DeskView _ _). d.fault_count x.disk) own.1
office_quiet d old office (inr again) = again.1.reads.quiet

pub asked_told : {D C : Type 0} (d : disks.Ghosts D) (old office : DeskView D C) (question : Ask) (said : Result Answer DeskFault) (after : ℕ) → IsOffice d old office
    → HasStoreReason said question office.office (d.fault_count office.disk) after → TellsFault said (d.fault_count old.disk) after
asked_told d old office question said after is told =
    subst (λ (n : ℕ). TellsFault said n after) (office_quiet d old office is) (office_told said question office.office (d.fault_count office.disk) after told)

-- and where none could be opened, the call tells why
pub unopened_told : {D : Type 0} (d : disks.Ghosts D) (old new : D) (said : Result Answer DeskFault) → IsUnopened d old new said → TellsFault said (d.fault_count old) (d.fault_count new)
unopened_told d old new (Ok answer) why = absurd why
unopened_told d old new (Err (faults.StoreFault None count)) why = (why.0, why.1)
unopened_told d old new (Err (faults.StoreFault (Some number) count)) why = absurd why
unopened_told d old new (Err faults.JournalFull) why = absurd why
unopened_told d old new (Err (faults.Broken fault)) why = why.2
unopened_told d old new (Err faults.NoMemory) why = why
