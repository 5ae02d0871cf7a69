-- The list of calls that a desk stands for grows by each call.
use Rattle.std.proofs.Common.{◌≡◌, inl, inr, ⊎_elim, ℕ, ◌+◌, ◌<◌, ◌≤◌, Bool, true, false, ◌&&◌, List, [], ◌∷◌, ◌++◌, length, Some, None, Option, Result, Ok, Err, refl, sym, ap, ◌∙◌, subst, arith}
use Rattle.std.specs.Prelude.{IsTrue, IsSome, IsSomeAnd}
use Rattle.std.proofs.lemmas.Option.{same_Some}
use Rattle.office_types.specs.declared.reply.Reply.{Reply}
use Rattle.office_types.specs.declared.refusal.Refusal.{Refusal}
use Rattle.std.proofs.lemmas.Bool.{both_ways}
use Rattle.office_base.specs.Faults.{Rose}
use Rattle.moments.specs.Time.{end_of_time}
use Rattle.disk_core.specs.declared.disk.Disk as disks
use Rattle.disk_core.specs.declared.disk.FileNo.TheVariants.{Journal}
use Rattle.disk_core.specs.Files.{State, File, IsImage}
use Rattle.disk_core.specs.Moments.{KeepsTo}
use Rattle.disk_core.proofs.Laws.{DiskLaws}
use Rattle.disk_core.proofs.Time.{started, weakened}
use Rattle.plain_office.specs.Office.{Office}
use Rattle.plain_office.specs.Once.{step_with}
use Rattle.plain_office.specs.Step.{is_accepted}
use Rattle.plain_office.specs.Run.{is_new, run}
use Rattle.office_types.specs.declared.command.Ask.{Ask}
use Rattle.office_types.specs.declared.command.Ask.TheVariants as ask
use Rattle.office_types.specs.declared.command.Entry.{Entry}
use Rattle.office_types.specs.declared.refusal.Refusal.TheVariants.{ClockEnd}
use Rattle.office_machine.specs.Once.{OfficeView}
use Rattle.office_machine.specs.Once as machine
use Rattle.plain_office.proofs.Runs.{run_more}
use Rattle.entry_codec.specs.Spelling.{spelling}
use Rattle.entry_codec.proofs.Sizes.{same_length}
use Rattle.meter_journal.specs.History.{header, end_gate, BeforeOrAfter}
use Rattle.meter_journal.proofs.History.{each_image}
use Rattle.desk_core.specs.declared.fault.DeskFault.{DeskFault}
use Rattle.desk_core.specs.declared.fault.DeskFault.TheVariants as faults
use Rattle.desk_core.specs.Answers.{Answer, Call}
use Rattle.desk_core.specs.Asked.{Asked, asked, entry_of, IsFresh, IsNotKept}
use Rattle.desk_core.specs.Calls.{AreLegal, IsLegal, IsDone, IsReply, IsFull, IsWritten, IsKeptAt, IsCommand, FitsIn, moment_after}
use Rattle.desk_core.specs.Histories.{SlotsFit}
use Rattle.desk_core.specs.Serving.{Opened, IsToldBy, AreToldBy, KeepsSlots, DiskServes}
use Rattle.desk_core.specs.Submitting.{PassesLimit}
use Rattle.desk_core.specs.Desk.{DeskView, HoldsHistory, IsReady, GoesOn, stale_after}
use Rattle.desk_core.specs.Offices.{from_first}
use Rattle.desk_core.specs.Answering.{call_time, IsAnswerOf, CarriesOut, Grows, StoreFails, IsDoneAt, HasFailed, AnswersInTime, AnswersEnded, AnswersAt, AnswersAsk}
use Rattle.desk_core.proofs.Adding.{asked_and}
use Rattle.desk_core.proofs.Offices.{fresh_in, run_is}
use Rattle.desk_core.proofs.Serving.{one_legal, rose_later, last_below, unique, makes_still, makes_grown, makes_failed}
use Rattle.desk_core.proofs.OneCallMore.{last_faults, IsKept, Makes, one_more, recoverable, legal_append, told_more}

-- ---- legal answers

-- what holds of what an ask asks for gives more of it
some_more : {X : Type 0} (o : Option X) (P Q : X → Type 0) → ((x : X) → P x → Q x) → IsSomeAnd o P → IsSomeAnd o Q
some_more None P Q f is = is
some_more (Some x) P Q f is = f x is

full_at : {D C : Type 0} (t : ℕ) (desk : DeskView D C) (question : Ask) (office : Office) (before : List Entry) → machine.StandsFor desk.office office → desk.gate ≡ end_gate header before
    → PassesLimit t desk question → IsFull desk.limit question office before
full_at t desk question office before stands is_end passes = some_more (asked question)
    (λ call. (t < end_of_time) × IsNotKept call desk.office × (desk.limit < desk.gate + 6 + length (spelling (entry_of t call))))
    (λ call. IsFresh call office × (FitsIn desk.limit before (entry_of 0 call) → ⊥))
    (λ call is. (fresh_in call.token desk.office office stands is.1, λ fits. omega (arith, is_end, is.2, same_length t 0 call.token call.command, fits))) passes

module _ {D : Type 0} {C : Type 0} (d : disks.Ghosts D) where
  module _ (b : Bool) (limit counted t number : ℕ) (question : Ask) (office : Office) (said : Answer) (before after : List Entry) (new : DeskView D C)
      (at : t ≡ moment_after number office.last) (made : IsAnswerOf d.moment (call_time t number) new said) (end : new.gate ≡ end_gate header after) where
    at_moment : said.moment ≡ moment_after said.told office.last
    at_moment = made.moment ∙ at ∙ ap (λ (n : ℕ). moment_after n office.last) (sym made.told)

    answered : t < end_of_time → IsReply limit t question office said.reply before after → IsLegal b limit counted question (Ok said) office before after
    answered lt is = record {
      moment = at_moment;
      reply = λ _. subst (λ (m : ℕ). IsReply limit m question office said.reply before after) (sym made.moment) is;
      ended = λ past. absurd (omega (arith, made.moment, lt, past));
      position = made.position ∙ end;
    }

    past_end : end_of_time ≤ t → said.reply ≡ Err (ClockEnd t) → after ≡ before → IsLegal b limit counted question (Ok said) office before after
    past_end past is same = record {
      moment = at_moment;
      reply = λ lt. absurd (omega (arith, made.moment, lt, past));
      ended = λ _. (is ∙ ap (λ (m : ℕ). Err (ClockEnd m)) (sym made.moment), same);
      position = made.position ∙ end;
    }

-- a desk holds a history whether or not it is marked as stale
pub marked_holds : {D C : Type 0} (d : disks.Ghosts D) (history : List Entry) (desk : DeskView D C) (stale : Bool) → HoldsHistory d history desk
    → HoldsHistory d history (record desk { stale = stale })
marked_holds d history desk stale h = record { office = h.office; end = h.end; each = h.each; small = h.small; limit = h.limit; at_rest = h.at_rest }

-- and is ready
pub marked_ready : {D C : Type 0} (d : disks.Ghosts D) (desk : DeskView D C) (stale : Bool) → IsReady d desk → IsReady d (record desk { stale = stale })
marked_ready d desk stale ready =
    let h = ready.holds in
    record { tail = ready.tail; holds = record { office = h.office; end = h.end; each = h.each; small = h.small; limit = h.limit; at_rest = h.at_rest }; takes = ready.takes; starts = ready.starts }

-- slots that are as they were fit what they fitted
pub fits_same : (first s : State) (history : List Entry) → KeepsSlots first s → SlotsFit history first → SlotsFit history s
fits_same first s history same fit = record {
  slot0 = λ image is. fit.slot0 image (subst (λ (f : File). IsImage f image) same.0 is);
  slot1 = λ image is. fit.slot1 image (subst (λ (f : File). IsImage f image) same.1 is);
}

-- an office over its journal stands for a list of calls since the opening of its desk
pub record StandsAt {D C : Type 0} (d : disks.Ghosts D) (opened : Opened) (calls : List Call) (desk : DeskView D C) : Type 0 where
  pub limit : desk.limit ≡ opened.limit
  pub faults : (opened.faults ≤ d.fault_count desk.disk) × AreToldBy (d.fault_count desk.disk) calls
  pub history : List Entry
  pub legal : AreLegal d.honest opened.limit opened.faults calls opened.history history
  pub holds : HoldsHistory d history desk
  pub tells : IsTrue d.honest
  pub serves : DiskServes d opened desk.disk calls
  pub slots : SlotsFit opened.history (d.state desk.disk)

module _ {D C : Type 0} {d : disks.Ghosts D} (laws : DiskLaws d) where
  abbrev Stands : Opened → List Call → DeskView D C → Type 0
  Stands opened calls desk = StandsAt d opened calls desk

  at_clock : (opened : Opened) (calls : List Call) (desk : DeskView D C) (clock : C) → Stands opened calls desk → Stands opened calls (record desk { clock = clock })
  at_clock opened calls desk clock s = record {
    limit = s.limit;
    faults = s.faults;
    history = s.history;
    legal = s.legal;
    holds = let h = s.holds in record { office = h.office; end = h.end; each = h.each; small = h.small; limit = h.limit; at_rest = h.at_rest };
    tells = s.tells;
    serves = s.serves;
    slots = s.slots;
  }

  module _ (old new : DeskView D C) (same_limit : new.limit ≡ old.limit) (later : d.fault_count old.disk ≤ d.fault_count new.disk)
      (opened : Opened) (calls : List Call) (s : Stands opened calls old) where
    abbrev last : ℕ
    last = last_faults opened.faults calls

    abbrev Next : Call → Type 0
    Next call = GoesOn d opened (calls ++ call ∷ []) old.disk (record new { stale = stale_after false call.said })

    grown_by : (call : Call) (after : List Entry) → ((b : Bool) → AreLegal b opened.limit last (call ∷ []) s.history after) → (stale_after false call.said ≡ false → HoldsHistory d after new)
        → IsToldBy (d.fault_count new.disk) call.said
        → KeepsTo d old.disk new.disk (KeepsSlots (d.state old.disk)) → Makes d old.disk new.disk opened.limit last call → Next call
    grown_by call after rule holds told slots makes = record {
      stands = record {
        tells = s.tells;
        limit = same_limit ∙ s.limit;
        faults = (omega (arith, later, s.faults.0), told_more calls call (d.fault_count old.disk) (d.fault_count new.disk) later s.faults.1 told);
        holds = λ fine. (
          after,
          legal_append d.honest opened.limit opened.faults calls (call ∷ []) opened.history s.history after s.legal (rule d.honest),
          marked_holds d after new (stale_after false call.said) (holds fine),
        );
        serves = one_more laws opened old.disk new.disk calls call s.serves makes;
        slots = fits_same (d.state old.disk) (d.state new.disk) opened.history slots.now s.slots;
      };
      any_moment = recoverable laws opened old.disk new.disk calls call s.serves makes;
      slots = slots;
    }

    -- the slots stay while an entry is added
    adding_keeps : (before : List Entry) (entry : Entry)
        → KeepsTo d old.disk new.disk (BeforeOrAfter header before entry (d.state old.disk))
        → KeepsTo d old.disk new.disk (KeepsSlots (d.state old.disk))
    adding_keeps before entry run = weakened (KeepsSlots (d.state old.disk)) run (λ t both. (both.slot0, both.slot1))

    abbrev held : HoldsHistory d s.history old
    held = s.holds

    abbrev plain : Office
    plain = held.office.plain

    runs : run s.history ≡ Some plain
    runs = run_is s.history held.office.is_run

    -- a call that wrote nothing
    still_by : (call : Call) → stale_after false call.said ≡ false → new.disk ≡ old.disk → HoldsHistory d s.history new
        → ((b : Bool) → IsLegal b opened.limit last call.ask call.said plain s.history s.history)
        → IsToldBy (d.fault_count new.disk) call.said
        → IsKept d new.disk call.said → Next call
    still_by call fine same holds legal told kept =
        let rule : (b : Bool) → AreLegal b opened.limit last (call ∷ []) s.history s.history = λ b. one_legal b opened.limit last call s.history s.history plain runs (legal b) in
        grown_by call s.history rule (λ _. holds) told
        (subst (λ (z : D). KeepsTo d old.disk z (KeepsSlots (d.state old.disk))) (sym same) (started d old.disk (KeepsSlots (d.state old.disk)) (laws.only_now old.disk) (refl, refl)))
        (makes_still laws old.disk old.gate s.history plain (held.at_rest s.tells) runs
        (laws.reads_image s.tells old.disk Journal) opened.limit last call new.disk same (rule true) kept told)

    kept_at : (after : List Entry) (t number : ℕ) (said : Answer) → HoldsHistory d after new → IsAnswerOf d.moment (call_time t number) new said
        → IsKept d new.disk (Ok said)
    kept_at after t number said holds made = (
      made.disk_moment,
      after,
      sym (made.position ∙ holds.end),
      λ image h is has. unique h after image has (each_image header (d.state new.disk) new.gate after (holds.at_rest s.tells) image is),
    )

    abbrev call_of : Ask → Result Answer DeskFault → Call
    call_of question said = record { ask = question; said = said }

    module _ (t number : ℕ) (at : t ≡ moment_after number old.office.records.last) where
      at_plain : t ≡ moment_after number plain.last
      at_plain = at ∙ ap (λ (o : Option ℕ). moment_after number o) held.office.stands.records.last

      -- an answer with which nothing was written
      answered_still : (question : Ask) (said : Answer) → IsAnswerOf d.moment (call_time t number) new said → new.disk ≡ old.disk → HoldsHistory d s.history new
          → ((b : Bool) → IsLegal b opened.limit last question (Ok said) plain s.history s.history) → Next (call_of question (Ok said))
      answered_still question said made disk holds legal = still_by (call_of question (Ok said)) refl disk holds legal tt (kept_at s.history t number said holds made)

      ended_call : (question : Ask) (said : Result Answer DeskFault) → end_of_time ≤ t → AnswersEnded d (call_time t number) (from_first s.history) old new said → Next (call_of question said)
      ended_call question (Ok said) past ended =
          answered_still question said ended.0 ended.2.disk ended.2.holds
          (λ b. past_end d b opened.limit last t number question plain said s.history s.history new at_plain ended.0 ended.2.holds.end past ended.1 refl)
      ended_call question (Err fault) past ended = absurd ended

      module _ (lt : t < end_of_time) where
        abbrev legal_at : (question : Ask) (said : Answer) (after : List Entry) → IsAnswerOf d.moment (call_time t number) new said → new.gate ≡ end_gate header after
            → IsReply opened.limit t question plain said.reply s.history after → (b : Bool) → IsLegal b opened.limit last question (Ok said) plain s.history after
        legal_at question said after made end is b = answered d b opened.limit last t number question plain said s.history after new at_plain made end lt is

        -- what is said of a command, is said of the ask that asks for it
        reply_of : (question : Ask) (one : Asked) → asked question ≡ Some one → (reply : Result Reply Refusal) (after : List Entry)
            → IsDone opened.limit t one plain reply s.history after → IsReply opened.limit t question plain reply s.history after
        reply_of (ask.Command command) one is reply after done = subst (λ (c : Asked). IsDone opened.limit t c plain reply s.history after) (sym (same_Some _ _ is)) done
        reply_of (ask.Once token command) one is reply after done = subst (λ (c : Asked). IsDone opened.limit t c plain reply s.history after) (sym (same_Some _ _ is)) done
        reply_of (ask.Query query) one is reply after done = absurd cc

        module _ (question : Ask) (one : Asked) (asks : asked question ≡ Some one) where
          abbrev e : Entry
          e = entry_of t one

          room : (IsFresh one plain → old.gate + 6 + length (spelling e) ≤ old.limit) → IsFresh one plain → end_gate header s.history + 6 + length (spelling e) ≤ opened.limit
          room fits fresh = omega (arith, fits fresh, held.end, s.limit)

          grown : (said : Answer) → IsAnswerOf d.moment (call_time t number) new said → said.reply ≡ (step_with t one.token one.command plain).1
              → (IsFresh one plain → old.gate + 6 + length (spelling e) ≤ old.limit) → IsTrue (is_new one.token plain && is_accepted said.reply) → Grows d (from_first s.history) e old new
              → Next (call_of question (Ok said))
          grown said made reply fits accepted grows =
              let call = call_of question (Ok said) in
              let after = s.history ++ e ∷ [] in
              let rule : (b : Bool) → AreLegal b opened.limit last (call ∷ []) s.history after = λ b. one_legal b opened.limit last call s.history after plain runs
              (legal_at question said after made grows.holds.end
              (reply_of question one asks said.reply after (record { told = reply; grows = inl (accepted, refl); fits = room fits })) b) in
              grown_by call after rule (λ _. grows.holds) tt (adding_keeps s.history e (grows.run s.tells))
              (makes_grown laws old.disk old.gate s.history plain (held.at_rest s.tells) runs (laws.reads_image s.tells old.disk Journal) opened.limit last call
              e grows.holds.office.plain (run_is after grows.holds.office.is_run) (rule true) new.disk new.gate (grows.run s.tells) (grows.holds.at_rest s.tells)
              (kept_at after t number said grows.holds made) (later, tt))

          carried : (said : Answer) → IsAnswerOf d.moment (call_time t number) new said → CarriesOut d t one plain (from_first s.history) old new said.reply → Next (call_of question (Ok said))
          carried said made is = ⊎_elim (λ grew. grown said made is.told is.fits grew.0 grew.1)
              (λ stayed. answered_still question said made stayed.1.disk stayed.1.holds
              (legal_at question said s.history made stayed.1.holds.end
              (reply_of question one asks said.reply s.history (record { told = is.told; grows = inr (stayed.0, refl); fits = room is.fits })))) is.grows

          command_is : IsCommand question
          command_is = subst (λ (o : Option Asked). IsSome o) (sym asks) refl

          failed : (count : ℕ) → count ≡ d.fault_count new.disk → StoreFails d plain (from_first s.history) e old new
              → Next (call_of question (Err (faults.StoreFault (Some number) count)))
          failed count is fails =
              let call = call_of question (Err (faults.StoreFault (Some number) count)) in
              let rose : Rose last count = subst (λ (k : ℕ). Rose last k) (sym is) (rose_later last (d.fault_count old.disk) (d.fault_count new.disk)
              (last_below opened.faults (d.fault_count old.disk) calls s.faults.0 s.faults.1) fails.rose) in
              let rule : (b : Bool) → AreLegal b opened.limit last (call ∷ []) s.history s.history = λ b. one_legal b opened.limit last call
              s.history s.history plain runs (command_is, rose, λ _. inl refl) in
              let accepted = fails.accepted plain held.office.stands in
              let written : IsWritten (moment_after number plain.last) one plain s.history (s.history ++ e ∷ []) =
              subst (λ (m : ℕ). IsWritten m one plain s.history (s.history ++ e ∷ [])) at_plain (record { moment = lt; fresh = accepted.0; accepted = accepted.1; written = refl }) in
              let there : IsKeptAt (moment_after number plain.last) question plain s.history (s.history ++ e ∷ []) =
              asked_and question one (λ c. IsWritten (moment_after number plain.last) c plain s.history (s.history ++ e ∷ [])) asks written in
              let kept = one_legal true opened.limit last call s.history (s.history ++ e ∷ []) plain runs (command_is, rose, λ _. inr there) in
              let told : IsToldBy (d.fault_count new.disk) call.said = omega (arith, is) in
              grown_by call s.history rule (λ not. absurd (both_ways true not refl)) told (adding_keeps s.history e (fails.run s.tells))
              (makes_failed laws old.disk old.gate s.history plain (held.at_rest s.tells) runs (laws.reads_image s.tells old.disk Journal) opened.limit last call
              e fails.next.0 (run_more s.history e plain fails.next.0 runs fails.next.1) kept new.disk (rule true) (fails.run s.tells) tt (later, told))

        done : (question : Ask) (said : Answer) → IsAnswerOf d.moment (call_time t number) new said → IsDoneAt d t question plain (from_first s.history) old new said.reply
            → Next (call_of question (Ok said))
        done (ask.Command command) said made is = carried (ask.Command command) _ refl said made is
        done (ask.Once token command) said made is = carried (ask.Once token command) _ refl said made is
        done (ask.Query query) said made is =
            answered_still (ask.Query query) said made is.1.disk is.1.holds (legal_at (ask.Query query) said s.history made is.1.holds.end (is.0, refl))

        failed_call : (question : Ask) (count : ℕ) → count ≡ d.fault_count new.disk → HasFailed d t question plain (from_first s.history) old new
            → Next (call_of question (Err (faults.StoreFault (Some number) count)))
        failed_call (ask.Command command) count is fails = failed (ask.Command command) _ refl count is fails
        failed_call (ask.Once token command) count is fails = failed (ask.Once token command) _ refl count is fails
        failed_call (ask.Query query) count is fails = absurd fails

        kept_call : (question : Ask) (said : Result Answer DeskFault) → AnswersInTime d (call_time t number) question plain (from_first s.history) old new said → Next (call_of question said)
        kept_call question (Ok said) keeps = done question said keeps.0 keeps.1
        kept_call question (Err (faults.StoreFault (Some told) count)) keeps =
            subst (λ (n : ℕ). Next (call_of question (Err (faults.StoreFault (Some n) count)))) (sym keeps.0) (failed_call question count keeps.1 keeps.2)
        kept_call question (Err (faults.StoreFault None count)) keeps = absurd keeps
        kept_call question (Err faults.JournalFull) keeps =
            still_by (call_of question (Err faults.JournalFull)) refl keeps.1.disk keeps.1.holds
            (λ b. (subst (λ (n : ℕ). IsFull n question plain s.history) s.limit (full_at t old question plain s.history held.office.stands held.end keeps.0), refl)) tt tt
        kept_call question (Err (faults.Broken fault)) keeps = absurd keeps
        kept_call question (Err faults.NoMemory) keeps = still_by (call_of question (Err faults.NoMemory)) refl keeps.disk keeps.holds (λ b. refl) tt tt

      pub answers_call : (question : Ask) (said : Result Answer DeskFault) → AnswersAt d (call_time t number) question plain (from_first s.history) old new said → Next (call_of question said)
      answers_call question said (inl in_time) = kept_call in_time.0 question said in_time.1
      answers_call question said (inr past) = ended_call question said past.0 past.1

  -- a call of which the clock told its number
  pub submitted : (old new : DeskView D C) (opened : Opened) (calls : List Call) (number : ℕ) (question : Ask) (said : Result Answer DeskFault)
      → Stands opened calls old → new.limit ≡ old.limit → d.fault_count old.disk ≤ d.fault_count new.disk
      → AnswersAsk d number question old new said
      → GoesOn d opened (calls ++ record { ask = question; said = said } ∷ []) old.disk (record new { stale = stale_after false said })
  unfolding at_clock
  submitted old new opened calls number question said s limit later asks =
      let told = record old { clock = asks.clock } in
      let stands = at_clock opened calls old asks.clock s in
      answers_call told new limit later opened calls stands asks.t number asks.at question said (asks.answers (from_first s.history) stands.holds)
