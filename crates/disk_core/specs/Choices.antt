-- The images that a disk in memory gives for tests: one for each choice.
use Rattle.std.specs.Prelude.{◌≡◌, ◌⊎◌, ℕ, ◌<◌, ◌≤◌, List, length, get_or}
use Rattle.std.specs.Global.{Vec}
use Rattle.std.specs.List.{Contains}
use Rattle.disk_core.specs.declared.pending.Choice.{Choice}
use Rattle.disk_core.specs.declared.pending.Filling.{Filling}
use Rattle.disk_core.specs.declared.pending.Filling.TheVariants.{Old, New, Mark}
use Rattle.disk_core.specs.Files.{File, Covers}

-- a byte that may hold anything: past the length at the last sync, or in a range that was written since then
abbrev pub IsPending : File → ℕ → Type 0
IsPending file i = (length file.synced ≤ i) ⊎ Covers file.written i

-- what it is filled with: what the last sync left there, what a read gives (each 0 past its end), or 0x37
abbrev pub filled : Filling → File → ℕ → ℕ
filled Old file i = get_or file.synced i 0
filled New file i = get_or file.seen i 0
filled Mark file i = 55

-- the file has this choice: a length that it had since its last sync, and a place from 0 to that length
pub record HasChoice (file : File) (choice : Choice) : Type 0 where
  pub size : Contains file.lengths choice.size
  pub place : choice.place ≤ choice.size

-- the image of a choice: its length, its first filling in all pending bytes before the place, its second one in those
-- from there on, and all other bytes as synced
pub record IsChosen (file : File) (choice : Choice) (image : List ℕ) : Type 0 where
  pub size : length image ≡ choice.size
  pub before : (i : ℕ) → i < choice.size → i < choice.place → IsPending file i
      → get_or image i 0 ≡ filled choice.before file i
  pub behind : (i : ℕ) → i < choice.size → choice.place ≤ i → IsPending file i
      → get_or image i 0 ≡ filled choice.behind file i
  pub others : (i : ℕ) → i < choice.size → (IsPending file i → ⊥) → get_or image i 0 ≡ get_or file.synced i 0

-- the image of this choice is among these
abbrev pub Gives : File → List (Vec ℕ) → Choice → Type 0
Gives file images choice = (image : Vec ℕ) × Contains images image × IsChosen file choice image.items

-- so is that of each choice that the file has
abbrev pub GivesEach : File → List (Vec ℕ) → Type 0
GivesEach file images = (choice : Choice) → HasChoice file choice → Gives file images choice
