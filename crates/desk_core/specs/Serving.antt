-- What a disk owes to the calls of a desk: what a crash at any moment since its opening leaves of them.
use Rattle.std.specs.Prelude.{◌≡◌, ℕ, zero, suc, ◌<◌, ◌≤◌, Bool, true, List, [], ◌∷◌, take, length, Ok, Err, Result}
use Rattle.disk_core.specs.declared.disk.Disk as disks
use Rattle.disk_core.specs.Files.{State, IsImage}
use Rattle.office_types.specs.declared.command.Entry.{Entry}
use Rattle.meter_journal.specs.History.{header, end_gate}
use Rattle.desk_core.specs.Answers.{Answer, Call}
use Rattle.desk_core.specs.Calls.{AreLegal}
use Rattle.desk_core.specs.Histories.{HasAcceptedHistory, IsPrefixOf, IsPrefixButOne}
use Rattle.desk_core.specs.declared.fault.DeskFault.{DeskFault}
use Rattle.desk_core.specs.declared.fault.DeskFault.TheVariants as faults

-- ---- the calls

-- the call at this place, counted from 0, was acknowledged so
abbrev pub IsAckedAt : List Call → ℕ → Answer → Type 0
IsAckedAt [] place answer = ⊥
IsAckedAt (call ∷ calls) zero answer = call.said ≡ Ok answer
IsAckedAt (call ∷ calls) (suc place) answer = IsAckedAt calls place answer

-- the count that a fault of the store told is not above this
abbrev pub IsToldBy : ℕ → Result Answer DeskFault → Type 0
IsToldBy now (Ok answer) = Unit {0}
IsToldBy now (Err (faults.StoreFault number count)) = count ≤ now
IsToldBy now (Err faults.JournalFull) = Unit {0}
IsToldBy now (Err (faults.Broken fault)) = Unit {0}
IsToldBy now (Err faults.NoMemory) = Unit {0}

-- of each call
abbrev pub AreToldBy : ℕ → List Call → Type 0
AreToldBy now [] = Unit {0}
AreToldBy now (call ∷ calls) = IsToldBy now call.said × AreToldBy now calls

-- ---- an opening

-- what is kept of an opening: the history that was read, the limit in bytes, and the disk's count of faults and its
-- moment at the return
pub record Opened : Type 0 where
  pub history : List Entry
  pub limit : ℕ
  pub faults : ℕ
  pub moment : ℕ

-- the calls, each legal, lead from the history at the opening to this one
abbrev pub LegalOn : Bool → Opened → List Call → List Entry → Type 0
LegalOn honest opened calls history = AreLegal honest opened.limit opened.faults calls opened.history history

-- on an honest disk
abbrev pub Legal : Opened → List Call → List Entry → Type 0
Legal = LegalOn true

-- ---- what a crash leaves

-- Left by a crash at this moment or later: the image has the history after some number of the first calls, and each
-- call that was acknowledged by then is among them.
pub record Recovers (opened : Opened) (calls : List Call) (moment : ℕ) (image : List ℕ) : Type 0 where
  pub history : List Entry
  pub has : HasAcceptedHistory history image
  pub count : ℕ
  pub most : count ≤ length calls
  pub legal : Legal opened (take count calls) history
  pub acked : (place : ℕ) (answer : Answer) → IsAckedAt calls place answer → answer.disk_moment ≤ moment → place < count

-- the image has the history after some number of the first calls
abbrev pub HasFront : Opened → List Call → List ℕ → Type 0
HasFront opened calls image =
    (history : List Entry) × (count : ℕ) × HasAcceptedHistory history image × (count ≤ length calls)
    × Legal opened (take count calls) history

-- each image of the journal file does
abbrev pub Recoverable : Opened → List Call → State → Type 0
Recoverable opened calls s = (image : List ℕ) → IsImage s.journal image → HasFront opened calls image

-- the files of checkpoints are as they were
abbrev pub KeepsSlots : State → State → Type 0
KeepsSlots first s = (s.slot0 ≡ first.slot0) × (s.slot1 ≡ first.slot1)

module _ {D : Type 0} (d : disks.Ghosts D) where
  -- From an answer's moment on the history of every image begins with the same entries, which end at its position.
  pub record Agrees (disk : D) (answer : Answer) : Type 0 where
    pub entries : List Entry
    pub place : end_gate header entries ≡ answer.position
    pub kept : (s : State) (image : List ℕ) (history : List Entry) → d.had_since disk answer.disk_moment s
        → IsImage s.journal image → HasAcceptedHistory history image
        → IsPrefixOf entries history

  -- What holds of an honest disk since the opening, whatever was asked and answered.
  pub record DiskServes (opened : Opened) (disk : D) (calls : List Call) : Type 0 where
    pub later : opened.moment ≤ d.moment disk
    -- at every moment since the opening, and of every image
    pub left : (t : ℕ) (s : State) (image : List ℕ) → opened.moment ≤ t → t ≤ d.moment disk → d.had_since disk t s
        → IsImage s.journal image → Recovers opened calls t image
    pub agrees : (place : ℕ) (answer : Answer) → IsAckedAt calls place answer → Agrees disk answer
    -- of every image now the calls are all there
    pub whole : (image : List ℕ) (history : List Entry) → IsImage (d.state disk).journal image
        → HasAcceptedHistory history image → Legal opened calls history
    -- what a crash would have left is there still, but for one entry at its end
    pub steady : (t : ℕ) (s : State) (image : List ℕ) (history : List Entry) → opened.moment ≤ t → t ≤ d.moment disk
        → d.had_since disk t s → IsImage s.journal image → HasAcceptedHistory history image
        → (image_now : List ℕ) (history_now : List Entry) → IsImage (d.state disk).journal image_now
        → HasAcceptedHistory history_now image_now → IsPrefixButOne history history_now
    -- no moment or count that was told is one to come
    pub told : (place : ℕ) (answer : Answer) → IsAckedAt calls place answer
        → (opened.moment ≤ answer.disk_moment) × (answer.disk_moment ≤ d.moment disk)
    pub faults : (opened.faults ≤ d.fault_count disk) × AreToldBy (d.fault_count disk) calls
