-- Where the reading of a journal starts.
use Rattle.std.specs.Prelude.{◌≡◌, ◌⊎◌, ℕ, ◌<◌, ◌≤◌, List, ◌++◌, length, take, Option, Some, None}
use Rattle.disk_core.specs.Files.{State, IsImage}
use Rattle.office_types.specs.declared.command.Entry.{Entry}
use Rattle.plain_office.specs.Office.{Office, empty_office}
use Rattle.plain_office.specs.Run.{run_from}
use Rattle.slots.specs.Loading.{LoadGives, pair_in}
use Rattle.office_snapshot.specs.Snapshots.{SnapshotRecord, Shows}
use Rattle.checkpoint.specs.Bodies.{Spells}
use Rattle.meter_journal.specs.History.{header, HasEntries}

-- what was loaded from the slots: a snapshot with its position, or nothing
abbrev pub Loaded : Type 0
Loaded = Option (SnapshotRecord × ℕ)

-- the slots of this state, as they are read, give it
abbrev pub IsLoadedIn : State → Loaded → Type 0
IsLoadedIn s loaded = LoadGives Spells loaded (pair_in s)

-- the office there: one that the snapshot shows, or the empty one
abbrev pub Begins : Loaded → Office → Type 0
Begins (Some loaded) office = Shows loaded.0 office
Begins None office = office ≡ empty_office

-- the place, in bytes from the start of the journal file: the position of the slot, or the first gate
abbrev pub place_of : Loaded → ℕ
place_of (Some loaded) = loaded.1
place_of None = 10

-- reading starts on this office, behind these bytes: so say the slots as they are read. The bytes begin as those of a
-- made journal do
pub record StartsOn (s : State) (office : Office) (head : List ℕ) : Type 0 where
  pub loaded : Loaded
  pub gives : IsLoadedIn s loaded
  pub begins : Begins loaded office
  pub place : length head ≡ place_of loaded
  pub made : (rest : List ℕ) × (head ≡ header ++ rest)

-- each image of the journal has entries from where reading starts on, which the office there accepts: so it is opened
-- again
pub record IsOpenable (s : State) : Type 0 where
  pub office : Office
  pub head : List ℕ
  pub starts : StartsOn s office head
  pub tails : (image : List ℕ) → IsImage s.journal image
      → (entries : List Entry) × HasEntries head entries image
      × ((after : Office) × (run_from (Some office) entries ≡ Some after))
