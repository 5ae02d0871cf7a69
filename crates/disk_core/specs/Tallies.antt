-- What a disk was asked to write and to sync.
use Rattle.std.specs.Prelude.{◌≡◌, ◌+◌, ◌-◌, ◌^◌, ◌≤◌, min, ℕ, Bool, true, false}
use Rattle.office_base.specs.Faults.{Rose}
use Rattle.disk_core.specs.declared.disk.FileNo.{FileNo}
use Rattle.disk_core.specs.declared.disk.FileNo.TheVariants.{Journal, Slot0, Slot1}

-- how often files were to be written or cut, how often one was synced, and of each file whether it was to be written or
-- cut since its last sync
pub record Tally : Type 0 where
  pub writes : ℕ
  pub syncs : ℕ
  pub journal : Bool
  pub slot0 : Bool
  pub slot1 : Bool

-- the same, but for whether this file was to be written or cut since its last sync
abbrev pub marked : FileNo → Bool → Tally → Tally
marked Journal b t = record t { journal = b }
marked Slot0 b t = record t { slot0 = b }
marked Slot1 b t = record t { slot1 = b }

-- this file was to be written or cut once more, whether that was done or not
abbrev pub IsWritten : FileNo → Tally → Tally → Type 0
IsWritten file old new = (n : ℕ) × Rose old.writes n × (new ≡ record (marked file true old) { writes = n })

-- this file was synced once more
abbrev pub IsSynced : FileNo → Tally → Tally → Type 0
IsSynced file old new = (n : ℕ) × Rose old.syncs n × (new ≡ record (marked file false old) { syncs = n })

-- at least n syncs were done; the count stops at the greatest u64
abbrev pub SyncedTimes : ℕ → Tally → Tally → Type 0
SyncedTimes n old new = min (old.syncs + n) (2 ^ 64 - 1) ≤ new.syncs

-- At least n syncs were done, and no write or cut of the journal came after the last. Whether a slot needs a sync is
-- as before.
pub record EndsSynced (n : ℕ) (old new : Tally) : Type 0 where
  pub syncs : SyncedTimes n old new
  pub journal : new.journal ≡ false
  pub slot0 : new.slot0 ≡ old.slot0
  pub slot1 : new.slot1 ≡ old.slot1

-- the two syncs of an entry were done, the second after its last write
abbrev pub IsDurable : Tally → Tally → Type 0
IsDurable old new = EndsSynced 2 old new
