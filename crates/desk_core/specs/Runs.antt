-- What an office does from its opening to its closing: its calls are legal, and what a crash leaves has their history.
use Rattle.std.specs.Prelude.{◌≡◌, ℕ, ◌-◌, ◌^◌, ◌<◌, ◌≤◌, Bool, false, List, [], ◌∷◌, Result, IsTrue}
use Rattle.std.specs.Io.KnownBytes.{Appends}
use Rattle.disk_core.specs.declared.disk.Disk as disks
use Rattle.disk_core.specs.Files.{State, IsImage}
use Rattle.disk_core.specs.Fronts.{Narrower}
use Rattle.disk_core.specs.Moments.{KeepsTo}
use Rattle.office_types.specs.declared.command.Entry.{Entry}
use Rattle.desk_core.specs.declared.clock.Clock as clocks
use Rattle.desk_core.specs.Answers.{Call}
use Rattle.desk_core.specs.Submitting.{Submits}
use Rattle.slots.specs.Causes.{HasSaveCause}
use Rattle.slots.specs.declared.fault.SaveFault.{SaveFault}
use Rattle.desk_core.specs.Closing.{Closes}
use Rattle.desk_core.specs.Desk.{DeskView, stale_after}
use Rattle.desk_core.specs.Histories.{HasAcceptedHistory, IsSound, IsPrefixOf, IsPrefixButOne}
use Rattle.desk_core.specs.Numbers.{AreNumbers}
use Rattle.desk_core.specs.Opening.{Opens}
use Rattle.desk_core.specs.Turns.{Moves}
use Rattle.desk_core.specs.Serving.{Opened, LegalOn, Recoverable, AreToldBy, KeepsSlots, DiskServes}

-- whether the desk is stale after these calls
abbrev pub stale_by : Bool → List Call → Bool
stale_by stale [] = stale
stale_by stale (call ∷ calls) = stale_by (stale_after stale call.said) calls

module _ {D : Type 0} (d : disks.Ghosts D) where
  -- Each image since the opening has a history that begins with that of the opening, and of which the office accepts each
  -- entry at its place. All of it but at most its last entry is in the history at the end.
  abbrev pub KeepsHistories : Opened → D → Type 0
  KeepsHistories opened new =
      (t : ℕ) (s : State) (image : List ℕ) → opened.moment ≤ t → t ≤ d.moment new
      → d.had_since new t s → IsImage s.journal image
      → (history : List Entry) × HasAcceptedHistory history image × IsPrefixOf opened.history history
      × ((at_end : List ℕ) (last : List Entry) → IsImage (d.state new).journal at_end → HasAcceptedHistory last at_end
      → IsPrefixButOne history last)

  -- What an honest disk keeps of the calls of an office, at every moment from the entry on.
  pub record KeepsCalls (old new : D) (opened : Opened) (calls : List Call) (history : List Entry) : Type 0 where
    -- it began from the history of what the disk read at the entry
    pub read : HasAcceptedHistory opened.history (d.state old).journal.seen
    -- which is the history of every image, if they have one in common
    pub only : (first : List Entry)
        → ((image : List ℕ) → IsImage (d.state old).journal image → HasAcceptedHistory first image)
        → opened.history ≡ first
    -- up to the opening each image is one that there was at the entry
    pub opening : D
    pub begun : opened.moment ≡ d.moment opening
    pub before : KeepsTo d old opening (Narrower (d.state old))
    -- from the opening on each image has the history after some number of the first calls
    pub since : KeepsTo d opening new (Recoverable opened calls)
    -- and each call that was acknowledged by then is among them
    pub serves : DiskServes d opened new calls
    -- no history is lost, but for a last entry
    pub steady : KeepsHistories opened new
    -- at the return, if the desk is not stale
    pub all : stale_by false calls ≡ false → (image : List ℕ) → IsImage (d.state new).journal image
        → HasAcceptedHistory history image
    -- up to the closing the files of checkpoints stay
    pub closing : D
    pub slots : KeepsTo d old closing (KeepsSlots (d.state old))
    -- from it on the journal file stays
    pub closed : KeepsTo d closing new (λ s. s.journal ≡ (d.state closing).journal)
    -- at every moment the files are as only an office writes them
    pub sound : KeepsTo d old new IsSound

-- what stands under an office: its disk and its clock
pub record Outside (D C : Type 0) : Type 0 where
  pub disk : D
  pub clock : C

-- this disk with this clock
abbrev pub outside : {D C : Type 0} → D → C → Outside D C
outside disk clock = record { disk = disk; clock = clock }

module _ {D C : Type 0} (d : disks.Ghosts D) (k : clocks.Ghosts C) where
  -- A desk was opened here, made these calls in order, and was closed. So each call has the cause that a call of a desk
  -- has, and `StoreFault` comes only in a call in which the disk failed.
  pub record MovesBy (limit : ℕ) (old new : Outside D C) (calls : List Call) : Type 0 where
    pub first : DeskView D C
    pub opens : Opens d old.disk old.clock limit first
    pub last : DeskView D C
    pub moved : Moves (Submits d k) first calls last
    pub saved : Result (Unit {0}) SaveFault
    pub closes : Closes d last new.disk saved
    pub cause : HasSaveCause (d.fault_count last.disk) (d.fault_count new.disk) saved
    pub clock : new.clock ≡ last.clock

  -- Over an honest disk that was sound at the entry the calls are legal, and the disk keeps them.
  pub record AnswersLegally (limit : ℕ) (old new : Outside D C) (calls : List Call) : Type 0 where
    pub opened : Opened
    pub limit_is : opened.limit ≡ limit
    pub faults : opened.faults ≡ d.fault_count old.disk
    pub history : List Entry
    pub legal : LegalOn d.honest opened calls history
    pub disk : KeepsCalls d old.disk new.disk opened calls history

  -- The office was opened over what stands under it, answered these calls in order, and was closed.
  pub record AnswersCalls (limit : ℕ) (old new : Outside D C) (calls : List Call) : Type 0 where
    pub calls_are : MovesBy limit old new calls
    pub sound : IsTrue d.honest → IsSound (d.state old.disk) → AnswersLegally limit old new calls
    -- the count of faults did not fall, and none that was told is above that at the return
    pub faults : (d.fault_count old.disk ≤ d.fault_count new.disk) × AreToldBy (d.fault_count new.disk) calls
    -- the clock told the numbers of the calls, where it did not count to its end
    pub numbers : k.count new.clock < 2 ^ 64 - 1
        → (list : List ℕ) × AreNumbers calls list × Appends (k.told old.clock) (k.told new.clock) list
