-- Closing a desk keeps a sound disk sound, at every moment.
use Rattle.std.proofs.Common.{◌≡◌, ◌≢◌, ◌⊎◌, inl, inr, ⊎_elim, ℕ, ◌≤◌, List, [], ◌++◌, Some, Result, Ok, Err, refl, sym, ◌∙◌, ap, subst, false, arith}
use Rattle.std.specs.List.{AllByRecursion}
use Rattle.std.specs.Prelude.{IsTrue, IsOk, IsErrOf, OnOk}
use Rattle.std.proofs.lemmas.Bool.{both_ways}
use Rattle.std.proofs.lemmas.List.{append-nil}
use Rattle.disk_core.specs.declared.disk.Disk as disks
use Rattle.disk_core.specs.declared.disk.FileNo.TheVariants.{Slot0, Slot1}
use Rattle.disk_core.proofs.Laws.{DiskLaws}
use Rattle.disk_core.proofs.Time.{started, weakened}
use Rattle.disk_core.specs.Files.{File, State, IsImage}
use Rattle.disk_core.specs.Moments.{KeepsTo, Untouched}
use Rattle.slots.specs.Saving.{Kept, OldOrNew, IsSaved}
use Rattle.slots.specs.Loading.{IsLoaded}
use Rattle.office_snapshot.specs.Snapshots.{SnapshotRecord, Shows, replies_of}
use Rattle.office_snapshot.specs.Restorable.{HaveForm, HasForm, IsRestorable}
use Rattle.office_snapshot.specs.Classes.{AreWhole}
use Rattle.office_snapshot.proofs.Fitting.{history_fits}
use Rattle.checkpoint.specs.Bodies.{Spells}
use Rattle.plain_office.specs.Office.{Office}
use Rattle.office_types.specs.declared.command.Entry.{Entry}
use Rattle.kept_replies.specs.Queue.{IsTold}
use Rattle.office_machine.specs.Once as machine
use Rattle.meter_journal.specs.History.{header, end_gate}
use Rattle.meter_journal.proofs.History.{each_image}
use Rattle.slots.specs.declared.fault.SaveFault.{SaveFault}
use Rattle.slots.specs.declared.fault.SaveFault.TheVariants as faults
use Rattle.meter_journal.proofs.History.{end_gate-none}
use Rattle.desk_core.specs.Answers.{Call}
use Rattle.slots.specs.Synced.{LeavesSynced}
use Rattle.desk_core.specs.Closing.{IsToSave, LoadsTheEnd, Closes}
use Rattle.desk_core.specs.Desk.{DeskView, HoldsHistory, IsReady, StandsFor}
use Rattle.desk_core.specs.Serving.{Opened}
use Rattle.desk_core.specs.Histories.{Images, AreImages, HasAcceptedHistory, IsOfHistory, IsSound}
use Rattle.desk_core.specs.Offices.{TakeTokens}
use Rattle.desk_core.proofs.Carrying.{takes_from, are_kept, sizes_fit}
use Rattle.desk_core.proofs.Counted.{few_entries}
use Rattle.desk_core.proofs.Offices.{run_is}
use Rattle.desk_core.proofs.Parting.{gate_low}
use Rattle.desk_core.proofs.Saving as saving
use Rattle.desk_core.proofs.Serving.{some_run}
use Rattle.desk_core.proofs.Staying.{one_history}

module _ {D : Type 0} {d : disks.Ghosts D} (laws : DiskLaws d)
    (one_value : (bytes : List ℕ) (a b : SnapshotRecord) → Spells bytes a → Spells bytes b → a ≡ b) where
  module _ {C : Type 0} (history : List Entry) (desk : DeskView D C) (snapshot : SnapshotRecord) (tells : IsTrue d.honest)
      (holds : HoldsHistory d history desk) (shows : (office : Office) → machine.StandsFor desk.office office → Shows snapshot office) where
    -- the snapshot of the desk's office, at the end of its journal, is of the history
    pub of_history : IsOfHistory history snapshot desk.gate
    of_history = record {
      before = history;
      after = [];
      parts = sym (append-nil history);
      place = holds.end;
      office = holds.office.plain;
      is_run = run_is history holds.office.is_run;
      shows_it = shows holds.office.plain holds.office.stands;
    }

    -- each image of the journal has the history
    pub has_history : (image : List ℕ) → IsImage (d.state desk.disk).journal image → HasAcceptedHistory history image
    has_history image is = record {
      entries = each_image header (d.state desk.disk) desk.gate history (holds.at_rest tells) image is;
      accepted = some_run history holds.office.plain (run_is history holds.office.is_run);
    }

    pub closes_soundly : (new : D) (body : List ℕ) → IsSound (d.state desk.disk) → Spells body snapshot
        → KeepsTo d desk.disk new (OldOrNew (record { position = desk.gate; body = body }) (d.state desk.disk))
        → KeepsTo d desk.disk new IsSound
    closes_soundly new body sound spelled run =
        weakened IsSound run (λ s old_or_new.
        saving.saved_sound one_value (d.state desk.disk) s (record { position = desk.gate; body = body }) history snapshot sound
        (laws.reads_image tells desk.disk Slot0) (laws.reads_image tells desk.disk Slot1) has_history spelled of_history old_or_new)

    -- and what is loaded from any image then has the end of the journal as its position
    pub loads_the_end : (new : D) (body : List ℕ) (s : State) (images : Images) (loaded : SnapshotRecord) (position : ℕ)
        → IsSound s → s.journal ≡ (d.state desk.disk).journal → 10 ≤ desk.gate → Spells body snapshot
        → IsSaved (record { position = desk.gate; body = body }) s → AreImages s images
        → IsLoaded Spells loaded position (record { slot0 = images.slot0; slot1 = images.slot1 }) → position ≡ desk.gate
    loads_the_end new body s images loaded position sound same low spelled saved are is =
        let stands = sound images are in
        let journal : IsImage (d.state desk.disk).journal images.journal = subst (λ (f : File). IsImage f images.journal) same are.journal in
        let one : stands.0 ≡ history = one_history stands.0 history images.journal stands.1.journal (has_history images.journal journal) in
        saving.loaded_at_end one_value stands.0 images (record { position = desk.gate; body = body }) snapshot loaded position stands.1 low spelled
        (holds.end ∙ ap (end_gate header) (sym one)) (saved images.slot0 images.slot1 are.slot0 are.slot1) is
        ∙ ap (end_gate header) one ∙ sym holds.end

-- ---- what closing does

module _ {D C : Type 0} {d : disks.Ghosts D} (laws : DiskLaws d) (desk : DeskView D C) where
  abbrev first : State
  first = d.state desk.disk

  -- where no checkpoint is to be kept
  pub left_alone : (new : D) (saved : Result (Unit {0}) SaveFault) → new ≡ desk.disk → IsOk saved → (IsToSave desk → ⊥) → Closes d desk new saved
  left_alone new saved same well none = subst (λ (z : D). Closes d desk z saved) (sym same) (record {
    untouched = λ _. (refl, well);
    durable = λ to_save. absurd (none to_save);
    journal = λ tells. started d desk.disk (λ s. s.journal ≡ first.journal) (laws.only_now desk.disk) refl;
    sound = λ opened calls stands sound. started d desk.disk IsSound (laws.only_now desk.disk) sound;
    kept = λ opened calls stands sound to_save. absurd (none to_save);
  })

  -- where memory ran out, and nothing was written
  pub kept_out : (new : D) (saved : Result (Unit {0}) SaveFault) → IsErrOf saved faults.NoMemory → desk.stale ≡ false → desk.gate ≢ desk.opened_at
      → (IsTrue d.honest → Untouched d desk.disk new) → Closes d desk new saved
  kept_out new saved fault fresh grown still = record {
    untouched = λ either. ⊎_elim (λ stale. absurd (both_ways desk.stale fresh stale)) (λ same. absurd (grown same)) either;
    durable = λ _. by (LeavesSynced 4 (d.tally desk.disk) (d.tally new)) saved fault;
    journal = λ tells. weakened (λ s. s.journal ≡ first.journal) (still tells) (λ s same. ap (λ (x : State). x.journal) same);
    sound = λ opened calls stands sound. weakened IsSound (still stands.tells) (λ s same. subst IsSound (sym same) sound);
    kept = λ opened calls stands sound to_save. by ((images : Images) → AreImages (d.state new) images → LoadsTheEnd desk images) saved fault;
  }
    where
      by : (P : Type 0) (r : Result (Unit {0}) SaveFault) → IsErrOf r faults.NoMemory → OnOk r P
      by P (Ok x) fault = absurd cc
      by P (Err e) fault = tt

  pub kept_same : (new : D) → new ≡ desk.disk → desk.stale ≡ false → desk.gate ≢ desk.opened_at → Closes d desk new (Err faults.NoMemory)
  kept_same new same fresh grown = kept_out new (Err faults.NoMemory) refl fresh grown
      (λ _. subst (λ (z : D). Untouched d desk.disk z) (sym same) (started d desk.disk (λ s. s ≡ first) (laws.only_now desk.disk) refl))

  -- where a checkpoint is saved
  module _ (one_value : (bytes : List ℕ) (a b : SnapshotRecord) → Spells bytes a → Spells bytes b → a ≡ b)
      (new : D) (saved : Result (Unit {0}) SaveFault) (snapshot : SnapshotRecord) (body : List ℕ) (spelled : IsRestorable snapshot → Spells body snapshot)
      (form : HasForm snapshot) (whole : AreWhole snapshot)
      (shows : (office : Office) → machine.StandsFor desk.office office → Shows snapshot office) (fresh : desk.stale ≡ false) (grown : desk.gate ≢ desk.opened_at)
      (run : IsTrue d.honest → KeepsTo d desk.disk new (OldOrNew (record { position = desk.gate; body = body }) first))
      (done : IsTrue d.honest → OnOk saved (IsSaved (record { position = desk.gate; body = body }) (d.state new)))
      (synced : OnOk saved (LeavesSynced 4 (d.tally desk.disk) (d.tally new))) where
    held : (opened : Opened) (calls : List Call) → StandsFor d opened calls desk → (history : List Entry) × HoldsHistory d history desk
    held opened calls stands = let h = stands.holds fresh in (h.0, h.2)

    -- the snapshot of a history is restored from
    reads_back : (history : List Entry) → HoldsHistory d history desk → Spells body snapshot
    reads_back history holds = spelled (history_fits history holds.office.plain snapshot (sizes_fit history holds.each) (run_is history holds.office.is_run)
        (few_entries header history desk.gate holds.end holds.small) form whole (shows holds.office.plain holds.office.stands))

    sound_run : (opened : Opened) (calls : List Call) → StandsFor d opened calls desk → IsSound first → KeepsTo d desk.disk new IsSound
    sound_run opened calls stands sound =
        let h = held opened calls stands in
        closes_soundly laws one_value h.0 desk snapshot stands.tells h.1 shows new body sound (reads_back h.0 h.1) (run stands.tells)

    low : (history : List Entry) → HoldsHistory d history desk → 10 ≤ desk.gate
    low history holds = omega (arith, holds.end, gate_low header [] history, end_gate-none header)

    loads : (opened : Opened) (calls : List Call) (stands : StandsFor d opened calls desk) → IsSound first → IsSaved (record { position = desk.gate; body = body }) (d.state new)
        → (images : Images) → AreImages (d.state new) images → LoadsTheEnd desk images
    loads opened calls stands sound kept images are loaded position is =
        let h = held opened calls stands in
        loads_the_end laws one_value h.0 desk snapshot stands.tells h.1 shows new body (d.state new) images loaded position
        (sound_run opened calls stands sound).now (run stands.tells).now.journal (low h.0 h.1) (reads_back h.0 h.1) kept are is

    on_saved : {P Q : Type 0} (r : Result (Unit {0}) SaveFault) → (P → Q) → OnOk r P → OnOk r Q
    on_saved (Ok x) f p = f p
    on_saved (Err e) f p = p

    pub closes : Closes d desk new saved
    closes = record {
      untouched = λ either. ⊎_elim (λ stale. absurd (both_ways desk.stale fresh stale)) (λ same. absurd (grown same)) either;
      durable = λ _. synced;
      journal = λ tells. weakened (λ s. s.journal ≡ first.journal) (run tells) (λ s both. both.journal);
      sound = sound_run;
      kept = λ opened calls stands sound to_save. on_saved saved (loads opened calls stands sound) (done stands.tells);
    }

  -- as the save tells
  module _ (one_value : (bytes : List ℕ) (a b : SnapshotRecord) → Spells bytes a → Spells bytes b → a ≡ b)
      (new : D) (snapshot : SnapshotRecord) (body : List ℕ) (form : HasForm snapshot) (whole : AreWhole snapshot)
      (shows : (office : Office) → machine.StandsFor desk.office office → Shows snapshot office) (fresh : desk.stale ≡ false) (grown : desk.gate ≢ desk.opened_at)
      (run : IsTrue d.honest → KeepsTo d desk.disk new (OldOrNew (record { position = desk.gate; body = body }) first)) where
    pub closes_by : (saved : Result (Unit {0}) SaveFault) → (IsRestorable snapshot → (IsErrOf saved faults.NoMemory → ⊥) → Spells body snapshot)
        → (IsTrue d.honest → IsErrOf saved faults.NoMemory → Untouched d desk.disk new)
        → (IsTrue d.honest → OnOk saved (IsSaved (record { position = desk.gate; body = body }) (d.state new)))
        → OnOk saved (LeavesSynced 4 (d.tally desk.disk) (d.tally new)) → Closes d desk new saved
    closes_by (Ok x) spelled unchanged done synced =
        closes one_value new (Ok x) snapshot body (λ restorable. spelled restorable (λ e. absurd cc)) form whole shows fresh grown run done synced
    closes_by (Err faults.StoreFault) spelled unchanged done synced =
        closes one_value new (Err faults.StoreFault) snapshot body (λ restorable. spelled restorable (λ e. absurd cc)) form whole shows fresh grown run done synced
    closes_by (Err faults.NoMemory) spelled unchanged done synced = kept_out new (Err faults.NoMemory) refl fresh grown (λ tells. unchanged tells refl)

-- ---- what a snapshot of the desk's office keeps

-- commands that may carry a token, as the office has kept no others
pub takes_now : {D C : Type 0} (d : disks.Ghosts D) (desk : DeskView D C) (ready : IsReady d desk) → TakeTokens ready.holds.office.plain.kept
takes_now d desk ready =
    takes_from ready.tail.entries ready.tail.office ready.holds.office.plain ready.holds.each ready.takes ready.holds.office.is_run

pub takes_snapshot : {D C : Type 0} (d : disks.Ghosts D) (desk : DeskView D C) → IsReady d desk → (snapshot : SnapshotRecord)
    → ((office : Office) → machine.StandsFor desk.office office → Shows snapshot office) → TakeTokens (replies_of snapshot.kept)
takes_snapshot d desk ready snapshot shows =
    subst TakeTokens (sym (shows ready.holds.office.plain ready.holds.office.stands).kept) (takes_now d desk ready)

pub form_of : (snapshot : SnapshotRecord) → TakeTokens (replies_of snapshot.kept) → AllByRecursion (λ part. HaveForm part.sums) snapshot.buckets
    → AllByRecursion IsTold snapshot.kept → HasForm snapshot
form_of snapshot takes sums told = record { sums = sums; kept = are_kept snapshot.kept takes told }
