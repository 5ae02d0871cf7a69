-- What an image of the disk stands for.
use Rattle.std.specs.Prelude.{◌≡◌, ◌⊎◌, ℕ, List, ◌++◌, ◌∷◌, [], Some, IsSome}
use Rattle.disk_core.specs.Files.{State, IsImage, synced_file}
use Rattle.office_types.specs.declared.command.Entry.{Entry}
use Rattle.plain_office.specs.Office.{Office}
use Rattle.plain_office.specs.Run.{run}
use Rattle.meter_journal.specs.History.{header, end_gate, HasEntries}
use Rattle.slots.specs.Slots.{Keeps}
use Rattle.office_snapshot.specs.Snapshots.{SnapshotRecord, Shows}
use Rattle.checkpoint.specs.Bodies.{Spells}

-- the image has these entries from its first gate on, up to the first gate that is not open, and the office accepts
-- each at its place
pub record HasAcceptedHistory (history : List Entry) (image : List ℕ) : Type 0 where
  pub entries : HasEntries header history image
  pub accepted : IsSome (run history)

-- each image of the journal file has a history
abbrev pub HaveHistories : State → Type 0
HaveHistories s =
    (image : List ℕ) → IsImage s.journal image → (history : List Entry) × HasAcceptedHistory history image

-- what a crash may leave of the three files
pub record Images : Type 0 where
  pub journal : List ℕ
  pub slot0 : List ℕ
  pub slot1 : List ℕ

-- these are images of the files in this state
pub record AreImages (s : State) (images : Images) : Type 0 where
  pub journal : IsImage s.journal images.journal
  pub slot0 : IsImage s.slot0 images.slot0
  pub slot1 : IsImage s.slot1 images.slot1

-- the position is a gate of the journal with this history, and the snapshot shows the office after the entries before
pub record IsOfHistory (history : List Entry) (snapshot : SnapshotRecord) (position : ℕ) : Type 0 where
  pub before : List Entry
  pub after : List Entry
  pub parts : history ≡ before ++ after
  pub place : position ≡ end_gate header before
  pub office : Office
  pub is_run : run before ≡ Some office
  pub shows_it : Shows snapshot office

-- what the slot keeps, if it decodes, is of this history
abbrev pub FitsHistory : List Entry → List ℕ → Type 0
FitsHistory history slot = (snapshot : SnapshotRecord) (position : ℕ)
    → Keeps Spells snapshot position slot → IsOfHistory history snapshot position

-- the images stand for the history: the journal has it, and each slot that decodes fits it
pub record Stands (history : List Entry) (images : Images) : Type 0 where
  pub journal : HasAcceptedHistory history images.journal
  pub slot0 : FitsHistory history images.slot0
  pub slot1 : FitsHistory history images.slot1

-- whatever a crash leaves stands for some history: only an office wrote the files
abbrev pub IsSound : State → Type 0
IsSound s = (images : Images) → AreImages s images → (history : List Entry) × Stands history images

-- the files of a machine that starts again after a crash: each is what the crash left of it, and nothing else
abbrev pub started_from : Images → State
started_from images = record {
  journal = synced_file images.journal;
  slot0 = synced_file images.slot0;
  slot1 = synced_file images.slot1;
}

-- whatever a crash leaves of the files is sound when the machine starts again
abbrev pub RestartsSound : State → Type 0
RestartsSound s = (images : Images) → AreImages s images → IsSound (started_from images)

-- each image of each slot fits the history, if it decodes
pub record SlotsFit (history : List Entry) (s : State) : Type 0 where
  pub slot0 : (image : List ℕ) → IsImage s.slot0 image → FitsHistory history image
  pub slot1 : (image : List ℕ) → IsImage s.slot1 image → FitsHistory history image

-- the second begins with the first
abbrev pub IsPrefixOf : List Entry → List Entry → Type 0
IsPrefixOf history longer = (rest : List Entry) × (longer ≡ history ++ rest)

-- the same, but for the last entry of the first
abbrev pub IsPrefixButOne : List Entry → List Entry → Type 0
IsPrefixButOne history longer =
    IsPrefixOf history longer
    ⊎ ((front : List Entry) × (entry : Entry) × (history ≡ front ++ entry ∷ []) × IsPrefixOf front longer)
