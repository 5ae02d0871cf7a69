-- Opening from a loaded slot: the office restored from it and replayed from its position is the one after the history.
use Rattle.std.proofs.Common.{◌≡◌, ◌≢◌, inl, inr, ⊎_elim, ℕ, ◌+◌, ◌<◌, ◌≤◌, List, [], ◌∷◌, ◌++◌, length, take, Option, Some, None, refl, sym, ◌∙◌, ap, subst, arith, length-append}
use Rattle.std.specs.Prelude.{IsSome, option_and_then}
use Rattle.std.proofs.lemmas.List.{length-take}
use Rattle.disk_core.specs.Files.{State, synced_file}
use Rattle.office_types.specs.declared.command.Entry.{Entry}
use Rattle.plain_office.specs.Office.{Office, empty_office}
use Rattle.plain_office.specs.Run.{run, run_from, accept}
use Rattle.meter_journal.specs.History.{journal_bytes, end_gate, header, HasEntries, IsAtRest}
use Rattle.meter_journal.specs.Reading.{HasPrefix, frame_at, Ended, Whole, Broken}
use Rattle.meter_journal.proofs.Prefix.{prefix_start}
use Rattle.meter_journal.proofs.Unique.{entries_unique, goes_on, never_broken}
use Rattle.desk_core.specs.Histories.{HasAcceptedHistory, IsOfHistory}
use Rattle.office_snapshot.specs.Snapshots.{SnapshotRecord}
use Rattle.office_machine.specs.Once.{OfficeView}
use Rattle.desk_core.specs.Offices.{StandsSince, StandsAfter}
use Rattle.desk_core.specs.Damage.{Start, IsBrokenFrom, IsDamagedFrom}
use Rattle.desk_core.proofs.Parting.{bytes_parted, run_since, run_parted, front_is, gate_inside, tail_has}

-- from the empty office on
pub is_run_of : (history : List Entry) → run_from (Some empty_office) history ≡ run history
unfolding run
is_run_of history = refl

not_run : (o : Option Office) (entries : List Entry) → o ≡ None → run_from o entries ≡ None
not_run o [] is = is
not_run o (e ∷ entries) is = not_run (option_and_then (λ before. accept before e) o) entries (ap (λ (x : Option Office). option_and_then (λ before. accept before e) x) is)

is_defined : (o : Option Office) → IsSome o → o ≡ None → ⊥
is_defined None some is = absurd cc
is_defined (Some p) some is = absurd cc

same_entry : (a b : Entry) (m n : ℕ) → Whole a m ≡ Whole b n → a ≡ b
same_entry a b m n is = cc

ended_whole : (e : Entry) (n : ℕ) → Ended ≡ Whole e n → ⊥
ended_whole e n is = cc

-- a file whose entries an office accepts is not damaged behind the head from which it is read
pub unbroken : (head file : List ℕ) (office : Office) (entries history : List Entry) (q : Office) (at : ℕ) → HasEntries head entries file → IsSome (run_from (Some office) entries)
    → HasPrefix head history at file → run_from (Some office) history ≡ Some q → frame_at at file ≡ Broken → ⊥
unbroken head file office entries history q at has accepted before is broken = never_broken head history entries at file has before broken

pub accepted_at : (head file : List ℕ) (office : Office) (entries history : List Entry) (q : Office) (at : ℕ) → HasEntries head entries file → IsSome (run_from (Some office) entries)
    → HasPrefix head history at file → run_from (Some office) history ≡ Some q → (entry : Entry) (next : ℕ) → frame_at at file ≡ Whole entry next → accept q entry ≡ None → ⊥
accepted_at head file office entries history q at has accepted before is entry next frame refused = ⊎_elim
    (λ ended. let both = sym ended.1 ∙ frame in ended_whole entry next both)
    (λ found.
    let both : Whole entry next ≡ Whole found.0 _ = sym frame ∙ found.3 in
    let stops : accept q found.0 ≡ None = ap (accept q) (sym (same_entry entry found.0 next _ both)) ∙ refused in
    let parted : run_from (Some office) (history ++ found.0 ∷ found.1) ≡ None =
    run_parted (Some office) history (found.0 ∷ found.1)
    ∙ ap (λ (o : Option Office). run_from o (found.0 ∷ found.1)) is
    ∙ not_run (accept q found.0) found.1 stops in
    is_defined (run_from (Some office) entries) accepted (ap (run_from (Some office)) found.2 ∙ parted))
    (goes_on head history entries at file has before)

module _ {history : List Entry} {snapshot : SnapshotRecord} {position : ℕ} {file : List ℕ} (slot : IsOfHistory history snapshot position)
    (has : HasAcceptedHistory history file) where
  whole : HasEntries header (slot.before ++ slot.after) file
  whole = subst (λ (h : List Entry). HasEntries header h file) slot.parts has.entries

  pub front : take position file ≡ journal_bytes header slot.before
  front = ap (λ (k : ℕ). take k file) slot.place ∙ front_is header file slot.before slot.after whole

  pub inside : position < length file
  inside = omega (arith, slot.place, gate_inside header file slot.before slot.after whole)

  -- reading may start at the position
  pub starts : HasPrefix (take position file) [] position file
  starts = prefix_start (take position file) position file refl (omega (arith, length-take position file, inside))

  -- and finds the entries behind it
  pub tail : HasEntries (take position file) slot.after file
  tail = subst (λ (head : List ℕ). HasEntries head slot.after file) (sym front) (tail_has header file slot.before slot.after whole)

  pub tail_run : run history ≡ run_from (Some slot.office) slot.after
  tail_run = ap run slot.parts ∙ run_since slot.before slot.after slot.office slot.is_run

  -- the office that was restored and replayed is the one after the whole history, and the gate is the end of its journal
  pub opened : (view : OfficeView) (gate : ℕ) (entries : List Entry) → StandsSince slot.office entries view
      → HasEntries (take position file) entries file → gate ≡ end_gate (take position file) entries
      → StandsAfter history view × (gate ≡ end_gate header history)
  opened view gate entries since read is_end =
      let same : entries ≡ slot.after = entries_unique (take position file) entries slot.after file read tail in (
        record {
          plain = since.plain;
          is_run = is_run_of history ∙ tail_run ∙ ap (run_from (Some slot.office)) (sym same) ∙ since.is_run;
          stands = since.stands;
          counted = omega (arith, since.counted, ap length same, ap length slot.parts, length-append slot.before slot.after);
        },
        is_end
            ∙ ap (end_gate (take position file)) same
            ∙ ap (λ (head : List ℕ). end_gate head slot.after) front
            ∙ ap length (sym (bytes_parted header slot.before slot.after))
            ∙ ap (end_gate header) (sym slot.parts),
      )

  -- it lies at rest there
  pub at_rest : (s : State) (gate : ℕ) → s.journal ≡ synced_file file → gate ≡ end_gate header history → IsAtRest header s gate history
  at_rest s gate on_disk is_end = record { bytes = file; on_disk = on_disk; history = has.entries; end = is_end }

  -- no damage is met from the position on
  pub undamaged : (at : ℕ) → IsDamagedFrom (record { office = slot.office; place = position }) at file → ⊥
  undamaged at (inl short) = absurd (omega (arith, short.0, inside))
  undamaged at (inr broken) =
      let some : IsSome (run_from (Some slot.office) slot.after) = subst IsSome tail_run has.accepted in
      ⊎_elim (unbroken (take position file) file slot.office slot.after broken.entries broken.office at tail some broken.before broken.is_run)
      (λ found. accepted_at (take position file) file slot.office slot.after broken.entries broken.office at tail some broken.before broken.is_run found.0 found.1 found.2 found.3)
      broken.breaks
