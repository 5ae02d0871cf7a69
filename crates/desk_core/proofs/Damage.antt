-- Why a journal is not opened.
use Rattle.std.proofs.Common.{◌≡◌, ◌⊎◌, ℕ, ◌+◌, ◌<◌, ◌≤◌, ◌^◌, List, [], ◌∷◌, ◌++◌, length, get_or, false, sym, ap, ◌∙◌, subst, refl, Option, Some, None, Ok, Err, inl, inr, ⊎_elim, arith}
use Rattle.std.specs.Prelude.{IsTrue, IsSome, IfSome, Result, option_and_then}
use Rattle.disk_core.specs.declared.disk.Disk as disks
use Rattle.disk_core.specs.Files.{State, File, synced_file}
use Rattle.plain_office.specs.Office.{Office, KeptReply, empty_office}
use Rattle.plain_office.specs.Once.{kept_at, kept_for, recalled}
use Rattle.plain_office.specs.Run.{run, run_from, accept, is_not_before}
use Rattle.office_types.specs.declared.command.Command.{Command}
use Rattle.office_types.specs.declared.command.Entry.{Entry}
use Rattle.office_types.specs.declared.reply.Reply.{Reply}
use Rattle.office_types.specs.declared.reply.Reply.TheVariants.{NothingDue}
use Rattle.office_types.specs.declared.refusal.Refusal.{Refusal}
use Rattle.office_types.specs.declared.refusal.Refusal.TheVariants as refusals
use Rattle.plain_office.proofs.Runs.{Token, early_refused, again_refused}
use Rattle.bucket_account.specs.Standing.{most_commands}
use Rattle.kept_replies.specs.Queue.{kept_in}
use Rattle.office_machine.specs.Once.{OfficeView, StandsFor, DoesOnce}
use Rattle.meter_journal.specs.declared.fault.OpenFault.{OpenFault}
use Rattle.meter_journal.specs.declared.fault.OpenFault.TheVariants as faults
use Rattle.entry_codec.specs.Spelling.{EntryFits, spelling}
use Rattle.meter_journal.specs.History.{header, end_gate}
use Rattle.meter_journal.specs.Reading.{IsMade, NextGives, Advances, HasPrefix, frame_at, Whole, Ended}
use Rattle.meter_journal.proofs.Heads.{made_head, made_not_none, made_not_foreign, history_made}
use Rattle.meter_journal.proofs.History.{end_gate-none, end_gate-push}
use Rattle.meter_journal.proofs.Prefix.{prefix_start, read_more, read_end}
use Rattle.meter_journal.proofs.Unique.{goes_on, never_broken}
use Rattle.desk_core.specs.Histories.{HasAcceptedHistory}
use Rattle.desk_core.specs.Damage.{IsDamagedAt, IsNotTaken, OpenFails}
use Rattle.desk_core.specs.Offices.{StandsAfter}
use Rattle.desk_core.proofs.Offices.{Done, fresh_in, nothing_taken, not_taken as refused}

-- ---- why an entry is not taken

pub lacks_or_not : (refusal : Refusal) → (refusal ≡ refusals.NoMemory) ⊎ (refusal ≡ refusals.NoMemory → ⊥)
lacks_or_not refusals.NoMemory = inl refl
lacks_or_not refusal = inr (λ e. absurd cc)

module _ {gate : ℕ} {fault : OpenFault} where
  pub not_taken : (old new : OfficeView) (e : Entry) (refusal : Refusal) → ((p : Office) → StandsFor old p → DoesOnce (Done p e) p new (Err refusal))
      → (refusal ≡ refusals.NoMemory → fault ≡ faults.NoMemory) → ((refusal ≡ refusals.NoMemory → ⊥) → fault ≡ faults.Damaged gate) → IsNotTaken gate old e fault
  not_taken old new e refusal does lacks other = ⊎_elim
      (λ is. inl (lacks is))
      (λ not. inr (other not, λ p stands. refused p e new refusal not (does p stands))) (lacks_or_not refusal)

  pub nothing_due : (old new : OfficeView) (e : Entry) (reply : Reply) → IfSome e.token (λ one. kept_in one old.kept.queue ≡ None)
      → ((p : Office) → StandsFor old p → DoesOnce (Done p e) p new (Ok reply))
      → fault ≡ faults.Damaged gate → reply ≡ NothingDue → IsNotTaken gate old e fault
  nothing_due old new e reply fresh does at nothing =
      inr (
        at,
        λ p stands. nothing_taken p e new (fresh_in e.token old p stands fresh)
            (subst (λ (r : Reply). DoesOnce (Done p e) p new (Ok r)) nothing (does p stands)),
      )

  -- a token under which a reply is kept
  pub not_new : (old : OfficeView) (e : Entry) → (fault ≡ faults.NoMemory) ⊎ ((fault ≡ faults.Damaged gate) × ((p : Office) → StandsFor old p → accept p e ≡ None))
      → IsNotTaken gate old e fault
  not_new old e (inl lacks) = inl lacks
  not_new old e (inr kept) = inr kept

pub not_in_order : {gate : ℕ} (old : OfficeView) (e : Entry) → is_not_before old.records.last e.moment ≡ false → IsNotTaken gate old e (faults.Damaged gate)
not_in_order old e early =
    inr (refl, λ p stands. early_refused p e (subst (λ (last : Option ℕ). is_not_before last e.moment ≡ false) stands.records.last early))

-- ---- a token that recalls a reply, or is refused

-- the office does not accept an entry whose token recalls anything but nothing
recalls : (o : Option KeptReply) (c : Command) → (recalled o c ≡ Ok None → ⊥) → (kept : KeptReply) × (o ≡ Some kept)
recalls None c other = absurd (other refl)
recalls (Some kept) c other = (kept, refl)

pub recalled_not_accepted : (view : OfficeView) (e : Entry) (token : List ℕ) (result : Result (Option Reply) Refusal) → e.token ≡ Some token
    → ((p : Office) → StandsFor view p → (result ≡ recalled (kept_at token p.kept) e.command) ⊎ (result ≡ Err refusals.NoMemory))
    → (result ≡ Ok None → ⊥) → (result ≡ Err refusals.NoMemory → ⊥) → (p : Office) → StandsFor view p → accept p e ≡ None
recalled_not_accepted view e token result is exact other lacks p stands =
    ⊎_elim (λ told. by (recalls (kept_at token p.kept) e.command (λ none. other (told ∙ none)))) (λ wants. absurd (lacks wants)) (exact p stands) where
      by : ((kept : KeptReply) × (kept_at token p.kept ≡ Some kept)) → accept p e ≡ None
      by (kept, there) = again_refused p e kept (ap (λ (t : Token). kept_for t p) is ∙ there)

-- ---- why a journal is not opened that is read from its first gate on

pub broken_at : (fault : OpenFault) (history : List Entry) (office : Office) (gate next : ℕ) (file : List ℕ) → IsMade file → HasPrefix header history gate file → run history ≡ Some office
    → NextGives (Err fault) gate next (frame_at gate file) → OpenFails fault file
broken_at faults.NotMade history office gate next file made before is gives = absurd gives.1
broken_at faults.Foreign history office gate next file made before is gives = absurd gives.1
broken_at (faults.Damaged at) history office gate next file made before is gives =
    subst (λ (k : ℕ). IsDamagedAt k file) (sym gives.1.0) (record { made = made; history = history; office = office; before = before; is_run = is; breaks = inl gives.1.1 })
broken_at faults.StoreFault history office gate next file made before is gives = tt
broken_at faults.NoMemory history office gate next file made before is gives = tt

-- ---- a file with a history is opened

not_run : (o : Option Office) (entries : List Entry) → o ≡ None → run_from o entries ≡ None
not_run o [] is = is
not_run o (e ∷ entries) is = not_run (option_and_then (λ before. accept before e) o) entries (ap (λ (x : Option Office). option_and_then (λ before. accept before e) x) is)

run_split : (p : Option Office) (front : List Entry) (e : Entry) (more : List Entry) → run_from p (front ++ e ∷ more) ≡ run_from (option_and_then (λ before. accept before e) (run_from p front)) more
run_split p [] e more = refl
run_split p (f ∷ front) e more = run_split (option_and_then (λ before. accept before f) p) front e more

stops : (front more : List Entry) (e : Entry) (office : Office) → run front ≡ Some office → accept office e ≡ None → run (front ++ e ∷ more) ≡ None
unfolding run
stops front more e office is no_more =
    run_split (Some empty_office) front e more ∙ not_run _ more (ap (λ (o : Option Office). option_and_then (λ before. accept before e) o) is ∙ no_more)

is_defined : (o : Option Office) → IsSome o → o ≡ None → ⊥
is_defined None some is = absurd cc
is_defined (Some p) some is = absurd cc

same_entry : (a b : Entry) (m n : ℕ) → Whole a m ≡ Whole b n → a ≡ b
same_entry a b m n is = cc

not_damaged : (history : List Entry) (file : List ℕ) (at : ℕ) → HasAcceptedHistory history file → IsDamagedAt at file → ⊥
not_damaged history file at has damaged = ⊎_elim
    (λ broken. never_broken header damaged.history history at file has.entries damaged.before broken)
    (λ stands. ⊎_elim (λ ended. let both = sym ended.1 ∙ stands.2 in absurd (ended_whole stands.0 stands.1 both))
    (λ next.
    let both : Whole stands.0 stands.1 ≡ Whole next.0 _ = sym stands.2 ∙ next.3 in
    let refused : accept damaged.office next.0 ≡ None = ap (λ (e : Entry). accept damaged.office e) (sym (same_entry stands.0 next.0 stands.1 _ both)) ∙ stands.3 in
    is_defined (run history) has.accepted (ap run next.2 ∙ stops damaged.history next.1 next.0 damaged.office damaged.is_run refused))
    (goes_on header damaged.history history at file has.entries damaged.before))
    damaged.breaks
  where
    ended_whole : (e : Entry) (n : ℕ) → Ended ≡ Whole e n → ⊥
    ended_whole e n is = cc

pub opens : (fault : OpenFault) (history : List Entry) (file : List ℕ) → HasAcceptedHistory history file → OpenFails fault file → (fault ≡ faults.StoreFault) ⊎ (fault ≡ faults.NoMemory)
opens faults.NotMade history file has fails = absurd (made_not_none file (history_made history file has.entries) fails)
opens faults.Foreign history file has fails = absurd (made_not_foreign file (history_made history file has.entries) fails)
opens (faults.Damaged at) history file has fails = absurd (not_damaged history file at has fails)
opens faults.StoreFault history file has fails = inl refl
opens faults.NoMemory history file has fails = inr refl
