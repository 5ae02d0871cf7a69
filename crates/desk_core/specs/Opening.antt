-- What opening a desk gives.
use Rattle.std.specs.Prelude.{◌≡◌, ℕ, false, List, [], IsTrue}
use Rattle.disk_core.specs.declared.disk.Disk as disks
use Rattle.office_types.specs.declared.command.Entry.{Entry}
use Rattle.desk_core.specs.Histories.{HasAcceptedHistory, IsSound}
use Rattle.desk_core.specs.Rereading.{ReadsOn}
use Rattle.desk_core.specs.Serving.{Opened}
use Rattle.desk_core.specs.Desk.{DeskView, StandsFor}

-- what is kept of the opening of this desk, which read this history
abbrev pub opened_with : {D C : Type 0} → disks.Ghosts D → List Entry → DeskView D C → Opened
opened_with d history desk =
    record { history = history; limit = desk.limit; faults = d.fault_count desk.disk; moment = d.moment desk.disk }

-- the desk stands for no call yet, from the history of the bytes that its journal file reads
pub record OpensWith {D C : Type 0} (d : disks.Ghosts D) (disk : D) (desk : DeskView D C) : Type 0 where
  pub history : List Entry
  pub read : HasAcceptedHistory history (d.state disk).journal.seen
  pub stands : StandsFor d (opened_with d history desk) [] desk

-- A desk that was opened on this disk, which did not fail: it read the journal on. If the disk is honest and sound, it
-- stands for no call yet, from the history of its journal on.
pub record Opens {D C : Type 0} (d : disks.Ghosts D)
    (disk : D) (clock : C) (limit : ℕ) (desk : DeskView D C) : Type 0 where
  pub reads : ReadsOn d disk desk
  pub sound : IsTrue d.honest → IsSound (d.state disk) → OpensWith d disk desk
  pub fresh : desk.stale ≡ false
  pub opened_at : desk.opened_at ≡ desk.gate
  pub limit_is : desk.limit ≡ limit
  pub clock_is : desk.clock ≡ clock
