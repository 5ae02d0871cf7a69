-- What a desk stands for, and what a call does to it.
use Rattle.std.specs.Prelude.{◌≡◌, ◌⊎◌, ℕ, ◌^◌, ◌≤◌, Bool, true, false, List, [], Some, None, Result, Ok, Err, IsTrue}
use Rattle.std.specs.List.{AllByRecursion}
use Rattle.office_base.specs.Faults.{Rose}
use Rattle.disk_core.specs.declared.disk.Disk as disks
use Rattle.disk_core.specs.Moments.{KeepsTo}
use Rattle.office_types.specs.declared.command.Entry.{Entry}
use Rattle.office_machine.specs.Once.{OfficeView}
use Rattle.entry_codec.specs.Spelling.{EntryFits}
use Rattle.meter_journal.specs.History.{end_gate, IsAtRest}
use Rattle.desk_core.specs.Answers.{Answer, Call}
use Rattle.desk_core.specs.Histories.{SlotsFit}
use Rattle.desk_core.specs.Offices.{Tail, from_first, TakeTokens, StandsSince}
use Rattle.desk_core.specs.Reading.{StartsOn}
use Rattle.desk_core.specs.Serving.{Opened, LegalOn, AreToldBy, Recoverable, KeepsSlots, DiskServes}
use Rattle.desk_core.specs.declared.fault.DeskFault.{DeskFault}
use Rattle.desk_core.specs.declared.fault.DeskFault.TheVariants as faults

-- what contracts see of a desk: its disk and clock, the office in memory, the offset of the journal's end gate, now and
-- at the opening, and the journal's limit, all in bytes, and whether the journal has to be opened again
pub record DeskView (D C : Type 0) : Type 0 where
  pub disk : D
  pub clock : C
  pub office : OfficeView
  pub gate : ℕ
  pub opened_at : ℕ
  pub limit : ℕ
  pub stale : Bool

-- The office is the one after the tail's entries, the gate is the journal's end, and the limit is at most 2^45 bytes. If
-- entries were read or added, the gate is not past 2^45. On an honest disk the journal is synced.
pub record HoldsTail {D C : Type 0} (d : disks.Ghosts D) (tail : Tail)
    (desk : DeskView D C) : Type 0 where
  pub office : StandsSince tail.office tail.entries desk.office
  pub end : desk.gate ≡ end_gate tail.head tail.entries
  pub each : AllByRecursion EntryFits tail.entries
  pub small : (tail.entries ≡ []) ⊎ (desk.gate ≤ 2 ^ 45)
  pub limit : desk.limit ≤ 2 ^ 45
  pub at_rest : IsTrue d.honest → IsAtRest tail.head (d.state desk.disk) desk.gate tail.entries

-- the tail is the whole history, from the empty office on
abbrev pub HoldsHistory : {D C : Type 0} → disks.Ghosts D → List Entry → DeskView D C → Type 0
HoldsHistory d history desk = HoldsTail d (from_first history) desk

-- the desk holds some tail, which starts where the slots of an honest disk say
pub record IsReady {D C : Type 0} (d : disks.Ghosts D) (desk : DeskView D C) : Type 0 where
  pub tail : Tail
  pub holds : HoldsTail d tail desk
  pub takes : TakeTokens tail.office.kept
  pub starts : IsTrue d.honest → StartsOn (d.state desk.disk) tail.office tail.head

-- Whether a desk is stale after a call: the journal has to be opened again after a fault of the store, and where it
-- broke. Want of memory leaves the desk as it was.
abbrev pub stale_after : Bool → Result Answer DeskFault → Bool
stale_after stale (Ok answer) = false
stale_after stale (Err (faults.StoreFault number count)) = true
stale_after stale (Err faults.JournalFull) = false
stale_after stale (Err (faults.Broken fault)) = true
stale_after stale (Err faults.NoMemory) = stale

-- The desk of an honest disk that was sound at its opening stands for a list of calls since then. They are legal, and a
-- desk that is not stale holds a history to which they lead. The disk serves them at every moment, and its slots fit.
pub record StandsFor {D C : Type 0} (d : disks.Ghosts D)
    (opened : Opened) (calls : List Call) (desk : DeskView D C) : Type 0 where
  pub tells : IsTrue d.honest
  pub limit : desk.limit ≡ opened.limit
  pub faults : (opened.faults ≤ d.fault_count desk.disk) × AreToldBy (d.fault_count desk.disk) calls
  pub holds : desk.stale ≡ false
      → (history : List Entry) × LegalOn d.honest opened calls history
      × HoldsHistory d history desk
  pub serves : DiskServes d opened desk.disk calls
  -- each slot fits the history from which it was opened, and so each longer one
  pub slots : SlotsFit opened.history (d.state desk.disk)

-- the desk went on from this disk: it stands for these calls, and at every moment since, each image has the history
-- after some number of the first of them
pub record GoesOn {D C : Type 0} (d : disks.Ghosts D)
    (opened : Opened) (calls : List Call) (first : D) (desk : DeskView D C) : Type 0 where
  pub stands : StandsFor d opened calls desk
  pub any_moment : KeepsTo d first desk.disk (Recoverable opened calls)
  pub slots : KeepsTo d first desk.disk (KeepsSlots (d.state first))

-- the last number that the clock told is that of the answer, or of the fault of the store
abbrev pub IsLast : ℕ → Result Answer DeskFault → Type 0
IsLast last (Ok answer) = answer.told ≡ last
IsLast last (Err (faults.StoreFault (Some number) count)) = number ≡ last
IsLast last (Err (faults.StoreFault None count)) = Unit {0}
IsLast last (Err faults.JournalFull) = Unit {0}
IsLast last (Err (faults.Broken fault)) = Unit {0}
IsLast last (Err faults.NoMemory) = Unit {0}

-- an answer has the end of the journal and the disk's moment at its return
abbrev pub IsStamped : Result Answer DeskFault → ℕ → ℕ → Type 0
IsStamped (Ok answer) end moment = (answer.position ≡ end) × (answer.disk_moment ≡ moment)
IsStamped (Err fault) end moment = Unit {0}

-- after `StoreFault` the disk failed in the call, and the count is the disk's at the return; after anything else the
-- count is as before
abbrev pub TellsFault : Result Answer DeskFault → ℕ → ℕ → Type 0
TellsFault (Ok answer) before after = after ≡ before
TellsFault (Err (faults.StoreFault number count)) before after = Rose before after × (count ≡ after)
TellsFault (Err faults.JournalFull) before after = after ≡ before
TellsFault (Err (faults.Broken fault)) before after = after ≡ before
TellsFault (Err faults.NoMemory) before after = after ≡ before
