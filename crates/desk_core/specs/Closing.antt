-- What closing a desk does to its disk.
use Rattle.std.specs.Prelude.{◌≡◌, ◌≢◌, ◌⊎◌, ℕ, true, false, List, Result, IsTrue, IsOk, OnOk}
use Rattle.disk_core.specs.declared.disk.Disk as disks
use Rattle.disk_core.specs.Moments.{KeepsTo}
use Rattle.slots.specs.Loading.{IsLoaded}
use Rattle.slots.specs.Synced.{LeavesSynced}
use Rattle.slots.specs.declared.fault.SaveFault.{SaveFault}
use Rattle.office_snapshot.specs.Snapshots.{SnapshotRecord}
use Rattle.checkpoint.specs.Bodies.{Spells}
use Rattle.desk_core.specs.Answers.{Call}
use Rattle.desk_core.specs.Desk.{DeskView, StandsFor}
use Rattle.desk_core.specs.Histories.{Images, AreImages, IsSound}
use Rattle.desk_core.specs.Serving.{Opened}

-- a checkpoint is kept: the desk has not to be opened again, and its journal grew since it was opened
pub record IsToSave {D C : Type 0} (desk : DeskView D C) : Type 0 where
  pub fresh : desk.stale ≡ false
  pub grown : desk.gate ≢ desk.opened_at

-- the end of the desk's journal is the position of what is loaded from these images
abbrev pub LoadsTheEnd : {D C : Type 0} → DeskView D C → Images → Type 0
LoadsTheEnd desk images = (snapshot : SnapshotRecord) (position : ℕ)
    → IsLoaded Spells snapshot position (record { slot0 = images.slot0; slot1 = images.slot1 })
    → position ≡ desk.gate

-- What closing a desk does to its disk. Where no checkpoint is to be kept nothing is written, and all is well; the
-- journal file stays.
pub record Closes {D C : Type 0} (d : disks.Ghosts D) (desk : DeskView D C) (new : D)
    (saved : Result (Unit {0}) SaveFault) : Type 0 where
  pub untouched : (desk.stale ≡ true) ⊎ (desk.gate ≡ desk.opened_at) → (new ≡ desk.disk) × IsOk saved
  -- on every disk: where a checkpoint was saved, four syncs or more were done, and each slot was synced after its last
  -- write
  pub durable : IsToSave desk → OnOk saved (LeavesSynced 4 (d.tally desk.disk) (d.tally new))
  pub journal : IsTrue d.honest → KeepsTo d desk.disk new (λ s. s.journal ≡ (d.state desk.disk).journal)
  -- a disk that is sound stays so, at every moment
  pub sound : (opened : Opened) (calls : List Call) → StandsFor d opened calls desk
      → IsSound (d.state desk.disk) → KeepsTo d desk.disk new IsSound
  -- after a save, what is loaded from any image has the end of the journal as its position
  pub kept : (opened : Opened) (calls : List Call) → StandsFor d opened calls desk
      → IsSound (d.state desk.disk) → IsToSave desk
      → OnOk saved ((images : Images) → AreImages (d.state new) images → LoadsTheEnd desk images)
