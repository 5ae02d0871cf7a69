-- What a crash leaves of the slots while a checkpoint is saved.
use Rattle.std.specs.Prelude.{◌≡◌, ◌≢◌, ◌⊎◌, ℕ, List, [], ◌∷◌}
use Rattle.disk_core.specs.declared.disk.FileNo.{FileNo}
use Rattle.disk_core.specs.Files.{File, State, IsImage, Part, file_in, with_file, synced_file}
use Rattle.slots.specs.Slots.{HoldsBody, Keeps}

-- this file has P; the others are as they were at first
pub record OnlyIn (file : FileNo) (P : File → Type 0) (first s : State) : Type 0 where
  pub here : P (file_in file s)
  pub others : s ≡ with_file file (file_in file s) first

-- each image is one that the file had
abbrev pub IsNarrower : File → File → Type 0
IsNarrower old f = (image : List ℕ) → IsImage f image → IsImage old image

-- a body at a position
pub record Kept : Type 0 where
  pub position : ℕ
  pub body : List ℕ

-- this body at this position
abbrev pub kept : ℕ → List ℕ → Kept
kept position body = record { position = position; body = body }

-- the file is a slot that is open with this body at this position
abbrev pub Holds : Kept → List ℕ → Type 0
Holds kept file = HoldsBody kept.position kept.body file

-- if an image of the file is open with some body, these bytes are open with the same body, or it is the new one
abbrev pub HasOldOrNew : List ℕ → Kept → File → Type 0
HasOldOrNew bytes new f = (image : List ℕ) (kept : Kept) → IsImage f image → Holds kept image
    → Holds kept bytes ⊎ (kept ≡ new)

-- some image of the file is open with this body
abbrev pub WasHeld : File → Kept → Type 0
WasHeld f kept = (image : List ℕ) × IsImage f image × Holds kept image

-- if an image of the file is open with some body, an image of the first file was open with it, or it is the new one
abbrev pub HasEarlierOrNew : File → Kept → File → Type 0
HasEarlierOrNew first new f = (image : List ℕ) (kept : Kept) → IsImage f image → Holds kept image
    → WasHeld first kept ⊎ (kept ≡ new)

-- in both slots, each open image has an earlier body or the new one; the journal file is as it was
pub record OldOrNew (new : Kept) (first s : State) : Type 0 where
  pub slot0 : HasEarlierOrNew first.slot0 new s.slot0
  pub slot1 : HasEarlierOrNew first.slot1 new s.slot1
  pub journal : s.journal ≡ first.journal

-- each image of the disk has it in one of its slots
abbrev pub IsSaved : Kept → State → Type 0
IsSaved new s = (image0 image1 : List ℕ) → IsImage s.slot0 image0 → IsImage s.slot1 image1
    → Holds new image0 ⊎ Holds new image1

module _ {V : Type 0} (spells : List ℕ → V → Type 0) where
  -- each image of the disk keeps this value at this position in one of its slots
  abbrev pub EachKeeps : V → ℕ → State → Type 0
  EachKeeps value position s = (image0 image1 : List ℕ) → IsImage s.slot0 image0 → IsImage s.slot1 image1
      → Keeps spells value position image0 ⊎ Keeps spells value position image1

-- each image of both slots is one from before; the journal file is as it was
pub record NarrowerSlots (first s : State) : Type 0 where
  pub slot0 : IsNarrower first.slot0 s.slot0
  pub slot1 : IsNarrower first.slot1 s.slot1
  pub journal : s.journal ≡ first.journal

-- what a read of each slot gives is its only image; the journal file is as it was
abbrev pub SyncedSlots : State → State → Type 0
SyncedSlots old new =
    new ≡ record { journal = old.journal; slot0 = synced_file old.slot0.seen; slot1 = synced_file old.slot1.seen }

-- these bytes are the only image of the file, and open for the new one; the other files are as they were
pub record IsWritten (file : FileNo) (new : Kept) (first s : State) : Type 0 where
  pub bytes : List ℕ
  pub holds : Holds new bytes
  pub state : s ≡ with_file file (synced_file bytes) first

-- each image of the file is what a partial write of n bytes at this offset leaves of these bytes
abbrev pub IsInPart : ℕ → ℕ → List ℕ → File → Type 0
IsInPart at n bytes f = (image : List ℕ) → IsImage f image → Part at n bytes image

-- these bytes begin with a gate that is not open
pub record IsShut (bytes : List ℕ) : Type 0 where
  pub gate : ℕ
  pub rest : List ℕ
  pub parts : bytes ≡ gate ∷ rest
  pub closed : gate ≢ 0xA7

-- the bytes are none, or begin with an open gate
abbrev pub IsToShut : List ℕ → Type 0
IsToShut bytes = (bytes ≡ []) ⊎ ((rest : List ℕ) × (bytes ≡ 0xA7 ∷ rest))
