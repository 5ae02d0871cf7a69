-- Why a journal is not opened, and what was read of one.
use Rattle.std.specs.Prelude.{◌≡◌, ◌⊎◌, ℕ, ◌^◌, ◌<◌, ◌≤◌, List, [], length, take, Some, None, IsTrue}
use Rattle.std.specs.List.{AllByRecursion}
use Rattle.disk_core.specs.declared.disk.Disk as disks
use Rattle.disk_core.specs.Files.{State}
use Rattle.plain_office.specs.Office.{Office}
use Rattle.plain_office.specs.Run.{run, run_from, accept}
use Rattle.office_types.specs.declared.command.Entry.{Entry}
use Rattle.office_machine.specs.Once.{OfficeView, StandsFor}
use Rattle.entry_codec.specs.Spelling.{EntryFits}
use Rattle.meter_journal.specs.declared.fault.OpenFault.{OpenFault}
use Rattle.meter_journal.specs.declared.fault.OpenFault.TheVariants as faults
use Rattle.meter_journal.specs.History.{header, end_gate, HasEntries}
use Rattle.meter_journal.specs.Reading.{IsMade, IsNotMade, IsForeign, HasPrefix, frame_at, Broken, Whole}
use Rattle.desk_core.specs.Offices.{StandsSince}
use Rattle.desk_core.specs.Reading.{Loaded, IsLoadedIn, Begins, place_of}

-- Damaged at this gate, and at none before it: before the gate stand entries that the office accepts. The file ends
-- before the gate, or the gate is open and no whole frame stands there, or an entry that the office does not accept
-- at its place.
pub record IsDamagedAt (at : ℕ) (file : List ℕ) : Type 0 where
  pub made : IsMade file
  pub history : List Entry
  pub office : Office
  pub before : HasPrefix header history at file
  pub is_run : run history ≡ Some office
  pub breaks : (frame_at at file ≡ Broken)
      ⊎ ((entry : Entry) × (next : ℕ) × (frame_at at file ≡ Whole entry next) × (accept office entry ≡ None))

-- where reading starts: at this place, in bytes from the start of the file, on this office
pub record Start : Type 0 where
  pub office : Office
  pub place : ℕ

-- Damaged at this gate, and at none before it from the start on: between stand entries that the office accepts. The file
-- ends before the gate, or the gate is open and no whole frame stands there, or an entry that the office does not accept
-- at its place.
pub record IsBrokenFrom (start : Start) (at : ℕ) (file : List ℕ) : Type 0 where
  pub inside : start.place ≤ length file
  pub entries : List Entry
  pub office : Office
  pub before : HasPrefix (take start.place file) entries at file
  pub is_run : run_from (Some start.office) entries ≡ Some office
  pub breaks : (frame_at at file ≡ Broken)
      ⊎ ((entry : Entry) × (next : ℕ) × (frame_at at file ≡ Whole entry next) × (accept office entry ≡ None))

-- damaged at this gate from the start on; or the file ends before the start, and this is that place
abbrev pub IsDamagedFrom : Start → ℕ → List ℕ → Type 0
IsDamagedFrom start at file = ((length file < start.place) × (at ≡ start.place)) ⊎ IsBrokenFrom start at file

-- a made journal that is read from where this says is damaged at this gate, whichever office the snapshot shows
pub record IsDamagedBehind (loaded : Loaded) (at : ℕ) (file : List ℕ) : Type 0 where
  pub made : IsMade file
  pub damaged : (office : Office) → Begins loaded office
      → IsDamagedFrom (record { office = office; place = place_of loaded }) at file

-- why the entry at this gate is not taken: memory is wanting, or the journal is damaged there, since no office that
-- this one stands for accepts it: its moment is before the last one, a reply is kept under its token, or its command is
-- refused
abbrev pub IsNotTaken : ℕ → OfficeView → Entry → OpenFault → Type 0
IsNotTaken gate view entry fault =
    (fault ≡ faults.NoMemory) ⊎ ((fault ≡ faults.Damaged gate)
    × ((plain : Office) → StandsFor view plain → accept plain entry ≡ None))

-- why a journal file of these bytes is not opened; a failing disk and want of memory are no fault of the bytes
abbrev pub OpenFails : OpenFault → List ℕ → Type 0
OpenFails faults.NotMade file = IsNotMade file
OpenFails faults.Foreign file = IsForeign file
OpenFails (faults.Damaged at) file = IsDamagedAt at file
OpenFails faults.StoreFault file = Unit {0}
OpenFails faults.NoMemory file = Unit {0}

-- why no desk is opened on a disk in this state: its journal is read from where its slots say
abbrev pub OpenFailsOn : OpenFault → State → Type 0
OpenFailsOn faults.NotMade s = IsNotMade s.journal.seen
OpenFailsOn faults.Foreign s = IsForeign s.journal.seen
OpenFailsOn (faults.Damaged at) s =
    (loaded : Loaded) × IsLoadedIn s loaded × IsDamagedBehind loaded at s.journal.seen
OpenFailsOn faults.StoreFault s = Unit {0}
OpenFailsOn faults.NoMemory s = Unit {0}

-- why the entries from this place of a made file on cannot be done again on the office of this view
abbrev pub ReplayFails : OpenFault → OfficeView → ℕ → List ℕ → Type 0
ReplayFails faults.NotMade first place file = ⊥
ReplayFails faults.Foreign first place file = ⊥
ReplayFails (faults.Damaged at) first place file = (office : Office) → StandsFor first office
    → IsDamagedFrom (record { office = office; place = place }) at file
ReplayFails faults.StoreFault first place file = Unit {0}
ReplayFails faults.NoMemory first place file = Unit {0}

-- all entries behind this place were read, and done again on what this view stands for
pub record HasReplayed {D : Type 0} (d : disks.Ghosts D) (first : OfficeView) (place : ℕ) (disk : D) (gate : ℕ)
    (office : OfficeView) : Type 0 where
  pub entries : List Entry
  pub each : AllByRecursion EntryFits entries
  pub stands : (start : Office) → StandsFor first start → StandsSince start entries office
  pub head : List ℕ
  pub place_is : length head ≡ place
  pub end : gate ≡ end_gate head entries
  pub small : (entries ≡ []) ⊎ (gate ≤ 2 ^ 45)
  pub reads : IsTrue d.tells → (file : List ℕ) → (d.state disk).journal.seen ≡ file → IsMade file
      → (head ≡ take place file) × HasEntries head entries file

-- the bytes are no journal, or a damaged one
abbrev pub IsBroken : OpenFault → Type 0
IsBroken faults.NotMade = Unit {0}
IsBroken faults.Foreign = Unit {0}
IsBroken (faults.Damaged at) = Unit {0}
IsBroken faults.StoreFault = ⊥
IsBroken faults.NoMemory = ⊥
