-- A file between two syncs, as the code holds it.
use Rattle.std.specs.Prelude.{ℕ, List}
use Rattle.std.specs.Global.{Vec}
use Rattle.std.specs.List.{All}
use Rattle.disk_core.specs.declared.pending.Choice.{Choice}
use Rattle.disk_core.specs.declared.pending.Pending.{Pending}
use Rattle.disk_core.specs.Choices.{Gives}
use Rattle.disk_core.specs.Files.{File, IsImage}

-- the file that is held: what a read gives, what the last sync left, and the lengths and writes since then
abbrev pub file_of : Pending → File
file_of p = record {
  seen = p.seen.items;
  synced = p.synced.items;
  lengths = p.lengths.items;
  written = p.written.items;
}

-- each of these is an image of the file
abbrev pub AreImages : File → List (Vec ℕ) → Type 0
AreImages file = All (λ (image : Vec ℕ). IsImage file image.items)

-- what the old images give, the new ones give
abbrev pub KeepsGiven : File → List (Vec ℕ) → List (Vec ℕ) → Type 0
KeepsGiven file old new = (choice : Choice) → Gives file old choice → Gives file new choice
