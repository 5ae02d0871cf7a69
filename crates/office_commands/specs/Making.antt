-- What making a journal does.
use Rattle.std.specs.Prelude.{◌≡◌, ◌⊎◌, ℕ, false, List, [], IsTrue}
use Rattle.disk_core.specs.declared.disk.Disk as disks
use Rattle.disk_core.specs.Files.{State, IsImage, synced_file}
use Rattle.disk_core.specs.Fronts.{Narrower}
use Rattle.disk_core.specs.Moments.{KeepsTo, WritesNothing}
use Rattle.meter_journal.specs.Created.{BeforeOrEmpty}
use Rattle.meter_journal.specs.Reading.{IsMade, IsNotMade, CreateFails}
use Rattle.meter_journal.specs.declared.fault.OpenFault.{OpenFault}
use Rattle.meter_journal.specs.declared.fault.OpenFault.TheVariants as faults
use Rattle.meter_journal.specs.declared.making.Made.{Made}
use Rattle.meter_journal.specs.declared.making.Made.TheVariants as mades
use Rattle.desk_core.specs.Histories.{HasAcceptedHistory}
use Rattle.http_front.specs.declared.replies.Replies as sinks
use Rattle.office_commands.specs.Lines.{made_line, fault_exit, fault_note}
use Rattle.office_commands.specs.Running.{Surroundings, IsNoted, IsPutOut}

-- a journal that was not made is now made and empty in each image; one that was made before reads the same, synced
abbrev pub IsMadeSo : Made → State → State → Type 0
IsMadeSo mades.Now old new =
    IsNotMade old.journal.seen × ((image : List ℕ) → IsImage new.journal image → HasAcceptedHistory [] image)
IsMadeSo mades.Before old new = IsMade old.journal.seen × (new.journal ≡ synced_file old.journal.seen)

module _ {D W : Type 0} (d : disks.Ghosts D) (w : sinks.Ghosts W) where
  -- The journal is made, the line was printed, and the disk did not fail. One made before is not written. Nothing of
  -- the journal is left to be synced.
  pub record Makes (old new : D) (out_old out_new : W) (status : ℕ) : Type 0 where
    pub made : Made
    pub is_made : IsTrue d.honest → IsMadeSo made (d.state old) (d.state new)
    pub kept : made ≡ mades.Before → WritesNothing d old new
    pub nothing_left : (d.tally new).journal ≡ false
    pub quiet : d.fault_count new ≡ d.fault_count old
    pub told : IsPutOut w (made_line made) out_old out_new status

  -- The journal is not made, and nothing was printed. With any fault but a store fault, the disk did not fail and nothing
  -- was written.
  pub record FailsToMake (old new : D) (out_old out_new : W) (status : ℕ) : Type 0 where
    pub fault : OpenFault
    pub why : IsTrue d.honest → CreateFails fault (d.state old).journal.seen
    pub quiet : (fault ≡ faults.StoreFault → ⊥) → d.fault_count new ≡ d.fault_count old
    pub writes : (fault ≡ faults.StoreFault → ⊥) → WritesNothing d old new
    -- a foreign file reads as before
    pub kept : IsTrue d.honest → fault ≡ faults.Foreign → (d.state new).journal ≡ synced_file (d.state old).journal.seen
    pub silent : w.texts out_new ≡ w.texts out_old
    pub status_is : status ≡ fault_exit fault
    pub note : IsNoted w out_old out_new (fault_note fault)

  -- in all cases, the images of a journal that was made or foreign stay; any other file is as before, not made, or made
  -- and empty
  pub record Inits (old new : D) (out_old out_new : W) (status : ℕ) : Type 0 where
    pub ends : Makes old new out_old out_new status ⊎ FailsToMake old new out_old out_new status
    pub unchanged : IsTrue d.honest → (IsNotMade (d.state old).journal.seen → ⊥)
        → KeepsTo d old new (Narrower (d.state old))
    pub any_moment : IsTrue d.honest → KeepsTo d old new (BeforeOrEmpty (d.state old))

module _ {D C W : Type 0} (d : disks.Ghosts D) (w : sinks.Ghosts W) where
  -- what `init` does: the clock is not asked
  abbrev pub InitsAlone : Surroundings D C W → Surroundings D C W → ℕ → Type 0
  InitsAlone old new status = Inits d w old.disk new.disk old.out new.out status × (new.clock ≡ old.clock)
