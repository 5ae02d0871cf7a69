-- What a save leaves of the tally of a disk.
use Rattle.std.specs.Prelude.{◌≡◌, ◌≢◌, ℕ, Bool, false}
use Rattle.disk_core.specs.declared.disk.FileNo.{FileNo}
use Rattle.disk_core.specs.declared.disk.FileNo.TheVariants.{Journal, Slot0, Slot1}
use Rattle.disk_core.specs.Tallies.{Tally, SyncedTimes}

-- At least n syncs were done, and no write or cut of a slot came after that slot's last sync. Whether one of the
-- journal came after its own last sync is as before.
pub record LeavesSynced (n : ℕ) (old new : Tally) : Type 0 where
  pub syncs : SyncedTimes n old new
  pub slot0 : new.slot0 ≡ false
  pub slot1 : new.slot1 ≡ false
  pub journal : new.journal ≡ old.journal

-- whether a write or cut of this file was tried after its last sync
abbrev pub mark_of : FileNo → Tally → Bool
mark_of Journal t = t.journal
mark_of Slot0 t = t.slot0
mark_of Slot1 t = t.slot1

-- At least n syncs were done. This file stays synced if it was, and whether another file needs a sync is as before.
pub record KeepsSynced (file : FileNo) (n : ℕ) (old new : Tally) : Type 0 where
  pub syncs : SyncedTimes n old new
  pub own : mark_of file old ≡ false → mark_of file new ≡ false
  pub others : (other : FileNo) → other ≢ file → mark_of other new ≡ mark_of other old
