-- What reading a disk alone leaves of it.
use Rattle.std.proofs.Common.{ap, refl, sym, subst}
use Rattle.std.specs.Prelude.{IsTrue}
use Rattle.disk_core.specs.declared.disk.Disk as disks
use Rattle.disk_core.specs.Fronts.{Narrower}
use Rattle.disk_core.specs.Moments.{KeepsTo, OnlyReads, WritesNothing}
use Rattle.disk_core.specs.Tallies.{Tally}
use Rattle.disk_core.proofs.Time.{weakened}

module _ {D : Type 0} {d : disks.Ghosts D} {old new : D} (reads : OnlyReads d old new) where
  pub nothing_written : WritesNothing d old new
  nothing_written = ap (λ (t : Tally). t.writes) reads.tally

  pub images_stay : (IsTrue d.honest → IsTrue d.tells) → IsTrue d.honest → KeepsTo d old new (Narrower (d.state old))
  images_stay tells honest = weakened (Narrower (d.state old)) (reads.files (tells honest))
      (λ s is. subst (Narrower (d.state old)) (sym is) (record { journal = λ image own. own; slot0 = refl; slot1 = refl }))
