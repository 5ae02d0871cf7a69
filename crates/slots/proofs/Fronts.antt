-- The gate of a file stays while it is written after it.
use Rattle.std.proofs.Common.{ℕ, ◌≤◌, List, Result}
use Rattle.std.specs.Prelude.{OnOk, OnErr}
use Rattle.disk_core.specs.declared.disk.Disk as disks
use Rattle.disk_core.specs.declared.disk.FileNo.{FileNo}
use Rattle.disk_core.specs.Calls.{Elapses}
use Rattle.disk_core.specs.Files.{State, IsImage, Wrote, Synced, Unsynced, file_in, seen_in}
use Rattle.disk_core.specs.Fronts.{KeepsFront}
use Rattle.disk_core.specs.Moments.{KeepsTo}
use Rattle.disk_core.proofs.Time.{goes_on}
use Rattle.disk_core.proofs.Crash.{front_wrote, front_synced, front_reread}
use Rattle.slots.specs.Saving.{OnlyIn}
use Rattle.slots.proofs.OneFile.{only_wrote, only_after_sync}

module _ {D : Type 0} {d : disks.Ghosts D} {old mid new : D} {m : ℕ} {front : List ℕ} {file : FileNo} {first : State}
    (run : KeepsTo d old mid (OnlyIn file (KeepsFront m front) first)) (time : Elapses d.state d.moment d.had_since mid new) where
  -- one write after the front, as one call more of a run
  pub front_on : (at n : ℕ) → m ≤ at → Wrote file at n (d.state mid) (d.state new) → KeepsTo d old new (OnlyIn file (KeepsFront m front) first)
  front_on at n le wrote = goes_on run time
      (only_wrote (KeepsFront m front) file at n first (d.state mid) (d.state new) run.now wrote
      (λ seen part. front_wrote m front (file_in file (d.state mid)) at n seen le run.now.here part))

  -- and a sync
  pub front_synced_on : {T E : Type 0} → IsImage (file_in file (d.state mid)) (seen_in file (d.state mid)) → (result : Result T E)
      → OnOk result (Synced file (d.state mid) (d.state new)) → OnErr result (Unsynced file (d.state mid) (d.state new))
      → KeepsTo d old new (OnlyIn file (KeepsFront m front) first)
  front_synced_on own result ok err = goes_on run time
      (only_after_sync result (KeepsFront m front) file first (d.state mid) (d.state new) run.now
      (front_synced m front (seen_in file (d.state mid)) run.now.here.seen_length run.now.here.seen)
      (λ seen image. front_reread m front (file_in file (d.state mid)) seen run.now.here image) ok err)
