-- What the table of stays prints.
use Rattle.std.specs.Prelude.{◌≡◌, ◌⊎◌, ℕ, List, IsTrue}
use Rattle.disk_core.specs.declared.disk.Disk as disks
use Rattle.disk_core.specs.Fronts.{Narrower}
use Rattle.disk_core.specs.Moments.{KeepsTo, WritesNothing}
use Rattle.desk_core.specs.declared.clock.Clock as clocks
use Rattle.stay_explain.specs.Explaining.{ReadsTable}
use Rattle.http_front.specs.declared.replies.Replies as sinks
use Rattle.meter_journal.specs.declared.fault.OpenFault.{OpenFault}
use Rattle.desk_core.specs.Damage.{OpenFails}
use Rattle.office_commands.specs.Running.{Surroundings, IsPutOut, IsRefused}

module _ {D C W : Type 0} (d : disks.Ghosts D) (k : clocks.Ghosts C) (w : sinks.Ghosts W) where
  -- The output is the table of stays of the journal's history, from which a bill can be checked by hand (own). Nothing
  -- is written, the disk did not fail, and the clock is not asked.
  pub record TellsTable (old new : Surroundings D C W) (status : ℕ) : Type 0 where
    pub text : List ℕ
    pub table : ReadsTable d old.disk text
    pub writes : WritesNothing d old.disk new.disk
    pub any_moment : IsTrue d.honest → KeepsTo d old.disk new.disk (Narrower (d.state old.disk))
    pub quiet : d.fault_count new.disk ≡ d.fault_count old.disk
    pub clock : new.clock ≡ old.clock
    pub told : IsPutOut w text old.out new.out status

  -- The journal could not be read from its first gate on; its bytes show why.
  pub record FailsToRead (old new : Surroundings D C W) (status : ℕ) : Type 0 where
    pub fault : OpenFault
    pub why : IsTrue d.tells → OpenFails fault (d.state old.disk).journal.seen
    pub refused : IsRefused d k w fault old new status

  -- what `explain` does: it prints the table, or refuses the journal
  abbrev pub Explains : Surroundings D C W → Surroundings D C W → ℕ → Type 0
  Explains old new status = TellsTable old new status ⊎ FailsToRead old new status
