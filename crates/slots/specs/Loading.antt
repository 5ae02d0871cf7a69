-- Which of the two slots is loaded: of those that decode, the one with the greatest position; if both have the same
-- position, the first.
use Rattle.std.specs.Prelude.{◌⊎◌, ℕ, ◌<◌, ◌≤◌, List, Option, Some, None}
use Rattle.disk_core.specs.declared.disk.FileNo.{FileNo}
use Rattle.disk_core.specs.declared.disk.FileNo.TheVariants.{Journal, Slot0, Slot1}
use Rattle.disk_core.specs.Files.{State}
use Rattle.slots.specs.Slots.{Keeps}
use Rattle.slots.specs.declared.finding.Found.{Found}

-- what a read of each slot gives
pub record Pair : Type 0 where
  pub slot0 : List ℕ
  pub slot1 : List ℕ

-- in this state
abbrev pub pair_in : State → Pair
pair_in s = record { slot0 = s.slot0.seen; slot1 = s.slot1.seen }

module _ {V : Type 0} (spells : List ℕ → V → Type 0) where
  -- a checkpoint: a value that some bytes spell, at a position not before the first gate of a journal
  pub record IsCheckpoint (value : V) (position : ℕ) : Type 0 where
    pub placed : 10 ≤ position
    pub body : List ℕ
    pub spelled : spells body value

  -- the first slot keeps this, and the second nothing at a greater position
  pub record IsFirst (value : V) (position : ℕ) (slots : Pair) : Type 0 where
    pub kept : Keeps spells value position slots.slot0
    pub greatest : (other : V) (place : ℕ) → Keeps spells other place slots.slot1 → place ≤ position

  -- the second slot keeps this, and the first nothing at the same or a greater position
  pub record IsSecond (value : V) (position : ℕ) (slots : Pair) : Type 0 where
    pub kept : Keeps spells value position slots.slot1
    pub greatest : (other : V) (place : ℕ) → Keeps spells other place slots.slot0 → place < position

  -- this file is the slot that is loaded, and keeps this
  abbrev pub IsLoadedFrom : FileNo → V → ℕ → Pair → Type 0
  IsLoadedFrom Slot0 value position slots = IsFirst value position slots
  IsLoadedFrom Slot1 value position slots = IsSecond value position slots
  IsLoadedFrom Journal value position slots = ⊥

  -- this is loaded
  abbrev pub IsLoaded : V → ℕ → Pair → Type 0
  IsLoaded value position slots = IsFirst value position slots ⊎ IsSecond value position slots

  -- neither slot decodes
  pub record KeepsNone (slots : Pair) : Type 0 where
    pub slot0 : (value : V) (position : ℕ) → Keeps spells value position slots.slot0 → ⊥
    pub slot1 : (value : V) (position : ℕ) → Keeps spells value position slots.slot1 → ⊥

  -- what loading gives: what the loaded slot keeps; nothing if and only if neither slot decodes
  abbrev pub LoadGives : Option (V × ℕ) → Pair → Type 0
  LoadGives (Some loaded) slots = IsLoaded loaded.0 loaded.1 slots
  LoadGives None slots = KeepsNone slots

  -- what finding the slot that is loaded gives
  abbrev pub FindGives : Option (Found V) → Pair → Type 0
  FindGives (Some found) slots = IsLoadedFrom found.file found.value found.position slots
  FindGives None slots = KeepsNone slots

  -- what reading one slot gives
  abbrev pub ReadGives : Option (V × ℕ) → List ℕ → Type 0
  ReadGives (Some read) file = Keeps spells read.0 read.1 file
  ReadGives None file = (value : V) (position : ℕ) → Keeps spells value position file → ⊥

  -- a slot other than this one keeps what is loaded
  abbrev pub SparesLoaded : FileNo → Pair → Type 0
  SparesLoaded Slot0 slots = (value : V) (position : ℕ) → IsLoaded value position slots
      → Keeps spells value position slots.slot1
  SparesLoaded Slot1 slots = (value : V) (position : ℕ) → IsLoaded value position slots
      → Keeps spells value position slots.slot0
  SparesLoaded Journal slots = ⊥
