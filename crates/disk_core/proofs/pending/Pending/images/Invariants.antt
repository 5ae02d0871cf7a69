use Rattle.std.proofs.Common.{◌≡◌, ◌<◌, ◌≤◌, ℕ, get_or}
use Rattle.disk_core.specs.declared.pending.Choice.{Choice}
use Rattle.disk_core.specs.Choices.{Gives}
use Rattle.disk_core.specs.Pending.{file_of, AreImages}
use Rattle.disk_core.proofs.pending.Pending.images.Given as goal

-- the images so far, with one for each choice of one of the lengths so far
abbrev pub invariant-loop-size : goal.invariant-loop-size
invariant-loop-size l =
    AreImages (file_of l.self) l.images.items
    × ((k : ℕ) (choice : Choice) → k < l.size-index → choice.size ≡ get_or l.self.lengths.items k 0 → choice.place ≤ choice.size
    → Gives (file_of l.self) l.images.items choice)
