-- What reading a journal on gives a desk.
use Rattle.std.specs.Prelude.{◌≡◌, ◌⊎◌, ℕ, ◌^◌, ◌≤◌, List, [], length, take, Option, IfSome, IsTrue}
use Rattle.std.specs.List.{AllByRecursion}
use Rattle.disk_core.specs.declared.disk.Disk as disks
use Rattle.disk_core.specs.Files.{synced_file}
use Rattle.disk_core.specs.Fronts.{Narrower}
use Rattle.disk_core.specs.Moments.{KeepsTo, WritesNothing}
use Rattle.office_types.specs.declared.command.Entry.{Entry}
use Rattle.plain_office.specs.Office.{Office}
use Rattle.entry_codec.specs.Spelling.{EntryFits}
use Rattle.meter_journal.specs.History.{end_gate, HasEntries}
use Rattle.meter_journal.specs.Reading.{IsMade, from_or_first}
use Rattle.office_machine.specs.Once.{OfficeView, StandsFor}
use Rattle.desk_core.specs.Desk.{DeskView}
use Rattle.desk_core.specs.Offices.{TakeTokens, StandsSince}
use Rattle.desk_core.specs.Reading.{Loaded, IsLoadedIn, Begins, place_of}

-- The desk after an opening: the entries from the place that the slots say to the end gate were done again, on the office
-- that the slots say. The disk did not fail, nothing was written, and each image since is one that it had.
pub record ReadsOn {D C : Type 0} (d : disks.Ghosts D) (disk : D) (desk : DeskView D C) : Type 0 where
  pub loaded : Loaded
  pub gives : IsTrue d.tells → IsLoadedIn (d.state disk) loaded
  pub entries : List Entry
  pub each : AllByRecursion EntryFits entries
  -- the office is the one after the entries, from whichever the snapshot shows, and it shows one
  pub stands : (start : Office) → Begins loaded start → StandsSince start entries desk.office
  pub shown : (start : Office) × Begins loaded start
  pub takes : (start : Office) → Begins loaded start → TakeTokens start.kept
  pub head : List ℕ
  pub place : length head ≡ place_of loaded
  pub low : 10 ≤ place_of loaded
  pub end : desk.gate ≡ end_gate head entries
  pub small : (entries ≡ []) ⊎ (desk.gate ≤ 2 ^ 45)
  pub limit_low : desk.limit ≤ 2 ^ 45
  pub made : IsTrue d.tells → IsMade (d.state disk).journal.seen
  pub front : IsTrue d.tells → head ≡ take (place_of loaded) (d.state disk).journal.seen
  pub tail : IsTrue d.tells → HasEntries head entries (d.state disk).journal.seen
  pub on_disk : IsTrue d.honest → (d.state desk.disk).journal ≡ synced_file (d.state disk).journal.seen
  pub any_moment : IsTrue d.honest → KeepsTo d disk desk.disk (Narrower (d.state disk))
  pub writes : WritesNothing d disk desk.disk
  pub quiet : d.fault_count desk.disk ≡ d.fault_count disk

-- The slots of this disk say that its journal is read from this place on, or from its first gate, on what this view
-- stands for.
pub record BeginsOn {D : Type 0} (d : disks.Ghosts D) (disk : D) (view : OfficeView) (from : Option ℕ) : Type 0 where
  pub loaded : Loaded
  pub gives : IsTrue d.tells → IsLoadedIn (d.state disk) loaded
  pub place : from_or_first from ≡ place_of loaded
  pub low : IfSome from (λ place. 10 ≤ place)
  pub stands : (start : Office) → Begins loaded start → StandsFor view start
  pub shown : (start : Office) × Begins loaded start
  pub takes : (start : Office) → Begins loaded start → TakeTokens start.kept
  pub fresh : view.records.accepted ≡ 0
