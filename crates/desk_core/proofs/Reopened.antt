-- A stale desk that opens its journal again stands for the calls that it stood for, and one that cannot for one call more.
use Rattle.std.proofs.Common.{◌≡◌, ◌⊎◌, inl, inr, ℕ, ◌≤◌, Bool, true, false, List, [], ◌∷◌, ◌++◌, Some, None, Option, Result, Ok, Err, refl, sym, ◌∙◌, subst, arith}
use Rattle.std.specs.Prelude.{IsTrue, IsSome}
use Rattle.std.proofs.lemmas.Bool.{both_ways}
use Rattle.office_base.specs.Faults.{Rose}
use Rattle.disk_core.specs.declared.disk.Disk as disks
use Rattle.disk_core.specs.declared.disk.FileNo.TheVariants.{Journal}
use Rattle.disk_core.specs.Files.{State, IsImage}
use Rattle.disk_core.specs.Fronts.{Narrower}
use Rattle.disk_core.specs.Moments.{KeepsTo}
use Rattle.disk_core.proofs.Laws.{DiskLaws}
use Rattle.disk_core.proofs.Time.{joined, weakened}
use Rattle.plain_office.specs.Office.{Office}
use Rattle.plain_office.specs.Run.{run}
use Rattle.office_types.specs.declared.command.Ask.{Ask}
use Rattle.office_types.specs.declared.command.Entry.{Entry}
use Rattle.office_snapshot.specs.Snapshots.{SnapshotRecord}
use Rattle.checkpoint.specs.Bodies.{Spells}
use Rattle.meter_journal.specs.declared.fault.OpenFault.{OpenFault}
use Rattle.meter_journal.specs.declared.fault.OpenFault.TheVariants as opens
use Rattle.desk_core.specs.declared.fault.DeskFault.{DeskFault}
use Rattle.desk_core.specs.declared.fault.DeskFault.TheVariants as faults
use Rattle.desk_core.specs.Answers.{Answer, Call}
use Rattle.desk_core.specs.Submitting.{Reopens, IsUnopened, IsOffice, Unopened}
use Rattle.desk_core.specs.Damage.{IsBroken, OpenFailsOn}
use Rattle.desk_core.specs.Calls.{AreLegal, IsLegal}
use Rattle.desk_core.specs.Histories.{HasAcceptedHistory, IsOfHistory, FitsHistory, SlotsFit}
use Rattle.desk_core.specs.Reading.{IsOpenable}
use Rattle.desk_core.specs.Serving.{Opened, IsToldBy, Recoverable, KeepsSlots, Recovers}
use Rattle.desk_core.specs.Desk.{DeskView, HoldsHistory, StandsFor, GoesOn, stale_after}
use Rattle.desk_core.specs.Answering.{AnswersAsk}
use Rattle.desk_core.specs.TurnLaws.{honest_legal}
use Rattle.desk_core.proofs.Openable.{never_fails}
use Rattle.desk_core.proofs.Rereading.{holds_all}
use Rattle.desk_core.proofs.Serving.{one_legal, rose_later, last_below}
use Rattle.desk_core.proofs.Narrowing.{HasFewer, narrowed, narrowed_run, idle, recoverable_more, run_more, told_all}
use Rattle.desk_core.proofs.OneCallMore.{last_faults, calls_grow, legal_append, told_more}
use Rattle.desk_core.proofs.Standing.{StandsAt, fits_same, submitted}
use Rattle.desk_core.proofs.Staying.{fits_longer}

run_some : {P : Type 0} (o : Option Office) → IsSome o → ((p : Office) → o ≡ Some p → P) → P
run_some (Some p) is f = f p refl
run_some None is f = absurd (both_ways false refl is)

-- the run of a history
run_of : {P : Type 0} (history : List Entry) → IsSome (run history) → ((p : Office) → run history ≡ Some p → P) → P
run_of history some f = run_some (run history) some f

abbrev pub answer_err : DeskFault → Result Answer DeskFault
answer_err fault = Err fault

no_broken : (at : OpenFault) → IsBroken at → (at ≡ opens.StoreFault) ⊎ (at ≡ opens.NoMemory) → ⊥
no_broken at broken (inl is) = absurd (subst IsBroken is broken)
no_broken at broken (inr is) = absurd (subst IsBroken is broken)

-- a slot that fits a history fits each longer one
pub slots_longer : (history more : List Entry) (s : State) → SlotsFit history s → SlotsFit (history ++ more) s
slots_longer history more s fit = record {
  slot0 = λ image is. fits_longer history more image (fit.slot0 image is);
  slot1 = λ image is. fits_longer history more image (fit.slot1 image is);
}

module _ (one_value : (bytes : List ℕ) (a b : SnapshotRecord) → Spells bytes a → Spells bytes b → a ≡ b) where
  -- what can be opened again is no broken journal
  pub openable_unbroken : {D C : Type 0} (d : disks.Ghosts D) (honest_tells : IsTrue d.honest → IsTrue d.tells) (old new : DeskView D C) (fault : DeskFault) (at : OpenFault)
      → IsImage (d.state old.disk).journal (d.state old.disk).journal.seen → Unopened d old new (Err fault) → IsTrue d.honest
      → IsOpenable (d.state old.disk) → answer_err fault ≡ answer_err (faults.Broken at) → ⊥
  openable_unbroken d honest_tells old new fault at own u tells openable is =
      let why = subst (λ (r : Result Answer DeskFault). IsUnopened d old.disk new.disk r) is u.why in
      no_broken at why.0 (never_fails one_value (d.state old.disk) at openable own (why.1 (honest_tells tells)))

module _ {D C : Type 0} {d : disks.Ghosts D} (laws : DiskLaws d) where
  abbrev Stands : Opened → List Call → DeskView D C → Type 0
  Stands opened calls desk = StandsFor d opened calls desk

  abbrev At : Opened → List Call → DeskView D C → Type 0
  At opened calls desk = StandsAt d opened calls desk

  module _ (desk : DeskView D C) (opened : Opened) (calls : List Call) (s : Stands opened calls desk) where
    abbrev last : ℕ
    last = last_faults opened.faults calls

    abbrev Rule : List Entry → Type 0
    Rule history = AreLegal d.honest opened.limit opened.faults calls opened.history history

    abbrev seen : List ℕ
    seen = (d.state desk.disk).journal.seen

    -- what is read has a history to which the calls lead
    found : Recovers opened calls (d.moment desk.disk) seen
    found = s.serves.left (d.moment desk.disk) (d.state desk.disk) seen s.serves.later (omega arith)
        (laws.counts_now desk.disk (d.moment desk.disk) (omega arith)) (laws.reads_image s.tells desk.disk Journal)

    led : Rule found.history
    led = honest_legal d.honest opened.limit opened.faults calls opened.history found.history s.tells
        (s.serves.whole seen found.history (laws.reads_image s.tells desk.disk Journal) found.has)

    -- which the slots fit
    fit_now : SlotsFit found.history (d.state desk.disk)
    fit_now =
        let grown = calls_grow opened.limit opened.faults calls opened.history found.history
        (s.serves.whole seen found.history (laws.reads_image s.tells desk.disk Journal) found.has) in
        subst (λ (h : List Entry). SlotsFit h (d.state desk.disk)) (sym grown.1) (slots_longer opened.history grown.0 (d.state desk.disk) s.slots)

    -- a desk that is not stale
    pub stands_fresh : desk.stale ≡ false → At opened calls desk
    stands_fresh fresh = let h = s.holds fresh in
        record { limit = s.limit; faults = s.faults; history = h.0; legal = h.1; holds = h.2; tells = s.tells; serves = s.serves; slots = s.slots }

    -- one that opened its journal again
    module _ (office : DeskView D C) (again : Reopens d desk office) where
      abbrev narrow : KeepsTo d desk.disk office.disk (Narrower (d.state desk.disk))
      narrow = again.reads.any_moment s.tells

      abbrev fewer : KeepsTo d desk.disk office.disk (HasFewer (d.state desk.disk))
      fewer = weakened (HasFewer (d.state desk.disk)) narrow (λ t less. less.journal)

      later : d.fault_count desk.disk ≤ d.fault_count office.disk
      later = omega (arith, again.reads.quiet)

      pub stands_again : At opened calls office
      stands_again = record {
        limit = again.limit ∙ s.limit;
        faults = (omega (arith, again.reads.quiet, s.faults.0), told_all calls (d.fault_count desk.disk) (d.fault_count office.disk) later s.faults.1);
        history = found.history;
        legal = led;
        holds = holds_all laws found.history desk.disk office s.tells again.reads found.has fit_now;
        tells = s.tells;
        serves = narrowed laws opened desk.disk office.disk calls s.serves fewer later;
        slots = fits_same (d.state desk.disk) (d.state office.disk) opened.history (narrow.now.slot0, narrow.now.slot1) s.slots;
      }

      pub run_again : (new : DeskView D C) (call : Call) → GoesOn d opened (calls ++ call ∷ []) office.disk new → GoesOn d opened (calls ++ call ∷ []) desk.disk new
      run_again new call goes = record {
        stands = goes.stands;
        any_moment = joined (Recoverable opened (calls ++ call ∷ []))
            (narrowed_run laws opened desk.disk office.disk calls s.serves fewer)
            goes.any_moment (recoverable_more opened calls (call ∷ [])) (λ t p. p);
        slots = joined (KeepsSlots (d.state desk.disk)) narrow goes.slots (λ t less. (less.slot0, less.slot1)) (λ t keeps. (keeps.0 ∙ narrow.now.slot0, keeps.1 ∙ narrow.now.slot1));
      }

    -- ---- a call that leaves the history

    module _ (question : Ask) where
      abbrev call_of : DeskFault → Call
      call_of fault = record { ask = question; said = Err fault }

      kept_by : (b : Bool) (call : Call)
          → ((p : Office) (history : List Entry) → IsLegal b opened.limit last call.ask call.said p history history)
          → (history : List Entry) → IsSome (run history) → AreLegal b opened.limit last (call ∷ []) history history
      kept_by b call legal history some = run_of history some (λ p is. one_legal b opened.limit last call history history p is (legal p history))

      -- want of memory leaves a stale desk stale
      pub stays_stale : (new : DeskView D C) → GoesOn d opened (calls ++ call_of faults.NoMemory ∷ []) desk.disk (record new { stale = false })
          → GoesOn d opened (calls ++ call_of faults.NoMemory ∷ []) desk.disk (record new { stale = true })
      stays_stale new goes = record {
        stands = record {
          tells = s.tells;
          limit = goes.stands.limit;
          faults = goes.stands.faults;
          holds = λ fine. absurd (both_ways true fine refl);
          serves = goes.stands.serves;
          slots = goes.stands.slots;
        };
        any_moment = goes.any_moment;
        slots = goes.slots;
      }

      -- the journal could not be opened again
      module _ (new : DeskView D C) (fault : DeskFault) (stays : new.stale ≡ true)
          (same_limit : new.limit ≡ desk.limit) (later : d.fault_count desk.disk ≤ d.fault_count new.disk)
          (narrow : KeepsTo d desk.disk new.disk (Narrower (d.state desk.disk))) where
        abbrev call : Call
        call = call_of fault

        abbrev less : KeepsTo d desk.disk new.disk (HasFewer (d.state desk.disk))
        less = weakened (HasFewer (d.state desk.disk)) narrow (λ t n. n.journal)

        abbrev Legally : Bool → Type 0
        Legally b = (p : Office) (history : List Entry) → IsLegal b opened.limit last question (Err fault) p history history

        not_acked : (answer : Answer) → call.said ≡ Ok answer → ⊥
        not_acked answer is = absurd cc

        pub unopened_by : Legally true → IsToldBy (d.fault_count new.disk) call.said
            → GoesOn d opened (calls ++ call ∷ []) desk.disk new
        unopened_by legal told = record {
          stands = record {
            tells = s.tells;
            limit = same_limit ∙ s.limit;
            faults = (omega (arith, later, s.faults.0), told_more calls call (d.fault_count desk.disk) (d.fault_count new.disk) later s.faults.1 told);
            holds = λ fine. absurd (both_ways new.stale fine stays);
            serves = idle laws opened new.disk calls call
                (narrowed laws opened desk.disk new.disk calls s.serves less later)
                not_acked (λ history has. kept_by true call legal history has.has.accepted) told;
            slots = fits_same (d.state desk.disk) (d.state new.disk) opened.history (narrow.now.slot0, narrow.now.slot1) s.slots;
          };
          any_moment = run_more laws opened desk.disk new.disk calls (call ∷ [])
              (narrowed_run laws opened desk.disk new.disk calls s.serves less);
          slots = weakened (KeepsSlots (d.state desk.disk)) narrow (λ t less. (less.slot0, less.slot1));
        }

        rose_last : (count : ℕ) → Rose (d.fault_count desk.disk) (d.fault_count new.disk) × (count ≡ d.fault_count new.disk) → Rose last count
        rose_last count why = subst (λ (k : ℕ). Rose last k) (sym why.1) (rose_later last (d.fault_count desk.disk) (d.fault_count new.disk)
            (last_below opened.faults (d.fault_count desk.disk) calls s.faults.0 s.faults.1) why.0)

      -- ---- one call more

      -- that no office answers
      pub unopened_call : (new : DeskView D C) (fault : DeskFault) → ((at : OpenFault) → answer_err fault ≡ answer_err (faults.Broken at) → ⊥) → new.stale ≡ desk.stale → Unopened d desk new (Err fault)
          → GoesOn d opened (calls ++ call_of fault ∷ []) desk.disk new
      unopened_call new (faults.StoreFault None count) never stays u =
          let fault = faults.StoreFault None count in
          let narrow = u.any_moment s.tells in
          let rose = rose_last new fault (stays ∙ u.is_stale) u.limit u.later narrow count u.why in
          unopened_by new fault (stays ∙ u.is_stale) u.limit u.later narrow (λ p h. (tt, rose, λ _. inl refl)) (omega (arith, u.why.1))
      unopened_call new (faults.StoreFault (Some number) count) never stays u = absurd u.why
      unopened_call new faults.JournalFull never stays u = absurd u.why
      unopened_call new (faults.Broken at) never stays u = absurd (never at refl)
      unopened_call new faults.NoMemory never stays u =
          unopened_by new faults.NoMemory (stays ∙ u.is_stale) u.limit u.later (u.any_moment s.tells) (λ p h. refl) tt

      abbrev all : Result Answer DeskFault → List Call
      all said = calls ++ record { ask = question; said = said } ∷ []

      abbrev Goes : DeskView D C → Result Answer DeskFault → Bool → Type 0
      Goes new said is = GoesOn d opened (all said) desk.disk (record new { stale = is })

      -- want of memory alone leaves a stale desk stale
      restaled : (new : DeskView D C) (said : Result Answer DeskFault) → Goes new said (stale_after false said) → Goes new said (stale_after true said)
      restaled new (Ok answer) goes = goes
      restaled new (Err (faults.StoreFault number count)) goes = goes
      restaled new (Err faults.JournalFull) goes = goes
      restaled new (Err (faults.Broken fault)) goes = goes
      restaled new (Err faults.NoMemory) goes = stays_stale new goes

      -- that this office answers
      pub asked_call : (office new : DeskView D C) (number : ℕ) (said : Result Answer DeskFault) → IsOffice d desk office
          → new.limit ≡ office.limit → d.fault_count office.disk ≤ d.fault_count new.disk → AnswersAsk d number question office new said → Goes new said (stale_after desk.stale said)
      asked_call office new number said (inl (fresh, same)) limit later asks =
          let stands = subst (λ (x : DeskView D C). At opened calls x) (sym same) (stands_fresh fresh) in
          let goes = submitted laws office new opened calls number question said stands limit later asks in
          subst (λ (b : Bool). Goes new said (stale_after b said)) (sym fresh)
          (subst (λ (x : DeskView D C). GoesOn d opened (all said) x.disk (record new { stale = stale_after false said })) same goes)
      asked_call office new number said (inr (stale, again)) limit later asks =
          let goes = submitted laws office new opened calls number question said (stands_again office again) limit later asks in
          subst (λ (b : Bool). Goes new said (stale_after b said)) (sym stale)
          (restaled new said (run_again office again (record new { stale = stale_after false said }) (record { ask = question; said = said }) goes))
