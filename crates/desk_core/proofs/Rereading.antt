-- A desk that read on from a loaded slot holds the whole history.
use Rattle.std.proofs.Common.{◌≡◌, ◌⊎◌, inl, inr, ⊎_elim, ℕ, ◌+◌, ◌^◌, ◌≤◌, List, [], ◌∷◌, ◌++◌, length, take, Option, Some, None, refl, sym, ◌∙◌, ap, subst, arith}
use Rattle.std.specs.Prelude.{IsTrue, IsSome}
use Rattle.disk_core.specs.declared.disk.Disk as disks
use Rattle.disk_core.specs.declared.disk.FileNo.TheVariants.{Journal, Slot0, Slot1}
use Rattle.disk_core.proofs.Laws.{DiskLaws}
use Rattle.disk_core.specs.Files.{State}
use Rattle.slots.specs.Slots.{Keeps}
use Rattle.slots.specs.Loading.{LoadGives, IsLoaded, pair_in}
use Rattle.office_snapshot.specs.Snapshots.{SnapshotRecord, Shows}
use Rattle.checkpoint.specs.Bodies.{Spells}
use Rattle.plain_office.specs.Office.{Office, empty_office}
use Rattle.plain_office.specs.Run.{run_from}
use Rattle.office_types.specs.declared.command.Entry.{Entry}
use Rattle.meter_journal.specs.History.{header, end_gate, HasEntries, IsAtRest}
use Rattle.meter_journal.specs.Reading.{IsMade}
use Rattle.meter_journal.specs.declared.fault.OpenFault.{OpenFault}
use Rattle.meter_journal.specs.declared.fault.OpenFault.TheVariants as faults
use Rattle.meter_journal.proofs.Heads.{made_head, made_not_none, made_not_foreign, history_made}
use Rattle.meter_journal.proofs.Unique.{entries_unique}
use Rattle.desk_core.specs.Desk.{DeskView, HoldsHistory}
use Rattle.desk_core.specs.Histories.{HasAcceptedHistory, IsOfHistory, FitsHistory, SlotsFit, IsSound}
use Rattle.desk_core.proofs.FromSlot as slot
use Rattle.desk_core.proofs.Staying.{one_history}
use Rattle.desk_core.specs.Offices.{StandsAfter}
use Rattle.desk_core.specs.Damage.{Start, IsDamagedFrom, IsDamagedBehind, OpenFailsOn}
use Rattle.desk_core.specs.Reading.{Loaded, IsLoadedIn, Begins, place_of}
use Rattle.desk_core.proofs.FromSlot.{is_run_of}
use Rattle.desk_core.specs.Rereading.{ReadsOn}

module _ {D : Type 0} {d : disks.Ghosts D} (laws : DiskLaws d) where
  -- what was loaded fits the history, where each slot does
  loaded_fits : (history : List Entry) (disk : D) (loaded : SnapshotRecord) (position : ℕ) → IsTrue d.honest → SlotsFit history (d.state disk)
      → IsLoaded Spells loaded position (pair_in (d.state disk)) → IsOfHistory history loaded position
  loaded_fits history disk loaded position tells fit (inl first) =
      fit.slot0 (d.state disk).slot0.seen (laws.reads_image tells disk Slot0) loaded position first.kept
  loaded_fits history disk loaded position tells fit (inr second) =
      fit.slot1 (d.state disk).slot1.seen (laws.reads_image tells disk Slot1) loaded position second.kept

  -- on a sound disk each slot fits the history of what the journal reads
  pub sound_fits : (history : List Entry) (disk : D) → IsTrue d.honest → IsSound (d.state disk)
      → HasAcceptedHistory history (d.state disk).journal.seen → SlotsFit history (d.state disk)
  sound_fits history disk tells sound has =
      let s = d.state disk in
      let own = laws.reads_image tells disk Journal in
      record {
        slot0 = λ image is.
            let was = sound (record { journal = s.journal.seen; slot0 = image; slot1 = s.slot1.seen }) (record { journal = own; slot0 = is; slot1 = laws.reads_image tells disk Slot1 }) in
            subst (λ (h : List Entry). FitsHistory h image) (one_history was.0 history s.journal.seen was.1.journal has) was.1.slot0;
        slot1 = λ image is.
            let was = sound (record { journal = s.journal.seen; slot0 = s.slot0.seen; slot1 = image }) (record { journal = own; slot0 = laws.reads_image tells disk Slot0; slot1 = is }) in
            subst (λ (h : List Entry). FitsHistory h image) (one_history was.0 history s.journal.seen was.1.journal has) was.1.slot1;
      }

  -- a sound disk has a history to be read
  pub sound_reads : (disk : D) → IsTrue d.honest → IsSound (d.state disk)
      → (history : List Entry) × HasAcceptedHistory history (d.state disk).journal.seen
  sound_reads disk tells sound =
      let s = d.state disk in
      let was = sound (record { journal = s.journal.seen; slot0 = s.slot0.seen; slot1 = s.slot1.seen })
      (record { journal = laws.reads_image tells disk Journal; slot0 = laws.reads_image tells disk Slot0; slot1 = laws.reads_image tells disk Slot1 }) in
      (was.0, was.1.journal)

  -- so it is opened
  from_gate : (history : List Entry) (file : List ℕ) (at : ℕ) → HasAcceptedHistory history file → IsMade file → IsDamagedFrom (record { office = empty_office; place = 10 }) at file → ⊥
  from_gate history file at has made (inl short) = absurd (omega (arith, short.0, made.0))
  from_gate history file at has made (inr broken) =
      let here : HasEntries (take 10 file) history file = subst (λ (h : List ℕ). HasEntries h history file) (made_head file made) has.entries in
      let some : IsSome (run_from (Some empty_office) history) = subst IsSome (sym (is_run_of history)) has.accepted in
      ⊎_elim (slot.unbroken (take 10 file) file empty_office history broken.entries broken.office at here some broken.before broken.is_run)
      (λ found. slot.accepted_at (take 10 file) file empty_office history broken.entries broken.office at here some broken.before broken.is_run found.0 found.1 found.2 found.3) broken.breaks

  from_loaded : (disk : D) (tells : IsTrue d.honest) (history : List Entry) (at : ℕ) → SlotsFit history (d.state disk) → HasAcceptedHistory history (d.state disk).journal.seen
      → (loaded : Loaded) → IsLoadedIn (d.state disk) loaded → IsDamagedBehind loaded at (d.state disk).journal.seen → ⊥
  from_loaded disk tells history at fit has None gives behind = from_gate history (d.state disk).journal.seen at has behind.made (behind.damaged empty_office refl)
  from_loaded disk tells history at fit has (Some (snapshot, position)) gives behind =
      let start = loaded_fits history disk snapshot position tells fit gives in
      slot.undamaged start has at (behind.damaged start.office start.shows_it)

  pub sound_never_fails : (disk : D) (fault : OpenFault) → IsTrue d.honest → IsSound (d.state disk) → OpenFailsOn fault (d.state disk) → (fault ≡ faults.StoreFault) ⊎ (fault ≡ faults.NoMemory)
  sound_never_fails disk faults.NotMade tells sound fails =
      let found = sound_reads disk tells sound in
      absurd (made_not_none (d.state disk).journal.seen (history_made found.0 (d.state disk).journal.seen found.1.entries) fails)
  sound_never_fails disk faults.Foreign tells sound fails =
      let found = sound_reads disk tells sound in
      absurd (made_not_foreign (d.state disk).journal.seen (history_made found.0 (d.state disk).journal.seen found.1.entries) fails)
  sound_never_fails disk (faults.Damaged at) tells sound fails =
      let found = sound_reads disk tells sound in
      absurd (from_loaded disk tells found.0 at (sound_fits found.0 disk tells sound found.1) found.1 fails.0 fails.1 fails.2)
  sound_never_fails disk faults.StoreFault tells sound fails = inl refl
  sound_never_fails disk faults.NoMemory tells sound fails = inr refl

  module _ {C : Type 0} (history : List Entry) (disk : D) (desk : DeskView D C) (tells : IsTrue d.honest) (reads : ReadsOn d disk desk)
      (has : HasAcceptedHistory history (d.state disk).journal.seen) (fit : SlotsFit history (d.state disk)) where
    -- from the first gate on
    from_first : reads.loaded ≡ None → StandsAfter history desk.office × (desk.gate ≡ end_gate header history)
    from_first none =
        let stands = reads.stands empty_office (subst (λ (o : Loaded). Begins o empty_office) (sym none) refl) in
        let head : reads.head ≡ header =
        reads.front (laws.honest_tells tells) ∙ ap (λ (o : Loaded). take (place_of o) (d.state disk).journal.seen) none ∙ sym (made_head (d.state disk).journal.seen (reads.made (laws.honest_tells tells))) in
        let same : reads.entries ≡ history =
        entries_unique header reads.entries history (d.state disk).journal.seen (subst (λ (h : List ℕ). HasEntries h reads.entries (d.state disk).journal.seen) head (reads.tail (laws.honest_tells tells))) has.entries in (
          record {
            plain = stands.plain;
            is_run = ap (run_from (Some empty_office)) (sym same) ∙ stands.is_run;
            stands = stands.stands;
            counted = omega (arith, stands.counted, ap length same);
          },
          reads.end ∙ ap (λ (h : List ℕ). end_gate h reads.entries) head ∙ ap (end_gate header) same,
        )

    -- from a slot on
    from_slot : (loaded : SnapshotRecord) (position : ℕ) → reads.loaded ≡ Some (loaded, position) → StandsAfter history desk.office × (desk.gate ≡ end_gate header history)
    from_slot loaded position some =
        let gives : IsLoaded Spells loaded position (pair_in (d.state disk)) =
        subst (λ (o : Loaded). LoadGives Spells o (pair_in (d.state disk))) some (reads.gives (laws.honest_tells tells)) in
        let start = loaded_fits history disk loaded position tells fit gives in
        let stands = reads.stands start.office (subst (λ (o : Loaded). Begins o start.office) (sym some) start.shows_it) in
        let head : reads.head ≡ take position (d.state disk).journal.seen =
        reads.front (laws.honest_tells tells) ∙ ap (λ (o : Loaded). take (place_of o) (d.state disk).journal.seen) some in
        slot.opened start has desk.office desk.gate reads.entries stands
        (subst (λ (h : List ℕ). HasEntries h reads.entries (d.state disk).journal.seen) head (reads.tail (laws.honest_tells tells)))
        (reads.end ∙ ap (λ (h : List ℕ). end_gate h reads.entries) head)

    by_loaded : (o : Loaded) → reads.loaded ≡ o → StandsAfter history desk.office × (desk.gate ≡ end_gate header history)
    by_loaded None is = from_first is
    by_loaded (Some (loaded, position)) is = from_slot loaded position is

    -- the desk holds the whole history
    pub holds_all : HoldsHistory d history desk
    holds_all =
        let both = by_loaded reads.loaded refl in
        record {
          office = both.0;
          end = both.1;
          each = has.entries.each;
          small = ⊎_elim inl (λ (below : end_gate header history + 1 ≤ 2 ^ 45). inr (omega (arith, both.1, below))) has.entries.small;
          limit = reads.limit_low;
          at_rest = λ _. record { bytes = (d.state disk).journal.seen; on_disk = reads.on_disk tells; history = has.entries; end = both.1 };
        }
