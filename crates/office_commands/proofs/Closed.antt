-- An office that was opened, read and closed, with nothing added to its journal.
use Rattle.std.proofs.Common.{◌≡◌, inr, sym, subst, ℕ, List, Some, Result}
use Rattle.std.specs.Prelude.{IsTrue}
use Rattle.disk_core.specs.declared.disk.Disk as disks
use Rattle.disk_core.specs.Fronts.{Narrower}
use Rattle.disk_core.specs.Moments.{KeepsTo, WritesNothing}
use Rattle.office_types.specs.declared.command.Entry.{Entry}
use Rattle.plain_office.specs.Office.{Office}
use Rattle.plain_office.specs.Run.{run}
use Rattle.office_machine.specs.Once.{OfficeView, StandsFor}
use Rattle.slots.specs.declared.fault.SaveFault.{SaveFault}
use Rattle.desk_core.specs.Closing.{Closes}
use Rattle.desk_core.specs.Desk.{DeskView}
use Rattle.desk_core.specs.Histories.{HasAcceptedHistory, IsSound}
use Rattle.desk_core.specs.Opening.{Opens}
use Rattle.desk_core.proofs.Offices.{run_is}

module _ {D : Type 0} (d : disks.Ghosts D) where
  -- the disk is as the opening left it
  pub record IsLeft (old new : D) : Type 0 where
    pub writes : WritesNothing d old new
    pub any_moment : IsTrue d.honest → KeepsTo d old new (Narrower (d.state old))
    pub quiet : d.fault_count new ≡ d.fault_count old

  -- this office in memory is the plain one after the history of what the journal reads
  pub record IsAfterRead (disk : D) (view : OfficeView) : Type 0 where
    pub history : List Entry
    pub read : HasAcceptedHistory history (d.state disk).journal.seen
    pub office : Office
    pub is_run : run history ≡ Some office
    pub stands : StandsFor view office

module _ {D C : Type 0} {d : disks.Ghosts D} {disk : D} {clock : C} {limit : ℕ} {desk : DeskView D C} (opens : Opens d disk clock limit desk) where
  pub same_disk : {new : D} {saved : Result (Unit {0}) SaveFault} → Closes d desk new saved → new ≡ desk.disk
  same_disk closes = (closes.untouched (inr (sym opens.opened_at))).0

  pub left : {new : D} {saved : Result (Unit {0}) SaveFault} → Closes d desk new saved → IsLeft d disk new
  left closes = subst (λ (x : D). IsLeft d disk x) (sym (same_disk closes))
      (record { writes = opens.reads.writes; any_moment = opens.reads.any_moment; quiet = opens.reads.quiet })

  pub shown : (office : Office) × StandsFor desk.office office
  shown = let since = opens.reads.stands opens.reads.shown.0 opens.reads.shown.1 in (since.plain, since.stands)

  pub after_read : IsTrue d.honest → IsSound (d.state disk) → IsAfterRead d disk desk.office
  after_read tells sound =
      let known = opens.sound tells sound in
      let held = known.stands.holds opens.fresh in
      let office = held.2.office in
      record {
        history = held.0;
        read = subst (λ (h : List Entry). HasAcceptedHistory h (d.state disk).journal.seen) (sym held.1) known.read;
        office = office.plain;
        is_run = run_is held.0 office.is_run;
        stands = office.stands;
      }
